use Rattle.laws_of_events.proofs.DrainLaws.{drained_again}
use Rattle.laws_of_events.proofs.draining_nodes.second_drain_changes_nothing.Goals as goal

pub returns : goal.returns
returns c = drained_again
