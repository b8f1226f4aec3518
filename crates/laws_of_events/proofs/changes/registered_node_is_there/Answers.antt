use Rattle.laws_of_events.proofs.NodeChanges.{node_came}
use Rattle.laws_of_events.proofs.changes.registered_node_is_there.Goals as goal

pub returns : goal.returns
returns c = node_came
