use Rattle.laws_of_events.proofs.DrainLaws.{registered_off}
use Rattle.laws_of_events.proofs.draining_nodes.registered_node_does_not_drain.Goals as goal

pub returns : goal.returns
returns c = registered_off
