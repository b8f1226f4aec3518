use Rattle.laws_of_events.proofs.BlockChanges.{replica_found_bad}
use Rattle.laws_of_events.proofs.changes.corrupt_replica_is_bad.Goals as goal

pub returns : goal.returns
returns c = replica_found_bad
