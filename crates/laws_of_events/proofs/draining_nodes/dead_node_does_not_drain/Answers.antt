use Rattle.laws_of_events.proofs.DrainLaws.{dead_off}
use Rattle.laws_of_events.proofs.draining_nodes.dead_node_does_not_drain.Goals as goal

pub returns : goal.returns
returns c = dead_off
