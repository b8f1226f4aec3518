use Rattle.laws_of_events.proofs.DrainLaws.{drain_takes}
use Rattle.laws_of_events.proofs.draining_nodes.drain_takes_transfers.Goals as goal

pub returns : goal.returns
returns c = drain_takes
