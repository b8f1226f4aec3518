use Rattle.laws_of_events.proofs.NodeChanges.{heartbeat_counts}
use Rattle.laws_of_events.proofs.changes.last_heartbeat_counts.Goals as goal

pub returns : goal.returns
returns c = heartbeat_counts
