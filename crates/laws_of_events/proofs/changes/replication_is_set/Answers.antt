use Rattle.laws_of_events.proofs.BlockChanges.{replication_set}
use Rattle.laws_of_events.proofs.changes.replication_is_set.Goals as goal

pub returns : goal.returns
returns c = replication_set
