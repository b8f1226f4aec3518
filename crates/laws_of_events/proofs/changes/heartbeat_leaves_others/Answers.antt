use Rattle.laws_of_events.proofs.NodeChanges.{heartbeat_others}
use Rattle.laws_of_events.proofs.changes.heartbeat_leaves_others.Goals as goal

pub returns : goal.returns
returns c = heartbeat_others
