use Rattle.laws_of_events.proofs.BlockChanges.{replica_deleted}
use Rattle.laws_of_events.proofs.changes.deleted_replica_is_gone.Goals as goal

pub returns : goal.returns
returns c = replica_deleted
