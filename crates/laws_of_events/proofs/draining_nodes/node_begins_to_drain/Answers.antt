use Rattle.laws_of_events.proofs.DrainLaws.{begins}
use Rattle.laws_of_events.proofs.draining_nodes.node_begins_to_drain.Goals as goal

pub returns : goal.returns
returns c = begins
