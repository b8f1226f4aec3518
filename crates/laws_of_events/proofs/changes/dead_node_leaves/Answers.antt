use Rattle.laws_of_events.proofs.NodeChanges.{node_left}
use Rattle.laws_of_events.proofs.changes.dead_node_leaves.Goals as goal

pub returns : goal.returns
returns c = node_left
