use Rattle.laws_of_events.proofs.NodeChanges.{storage_left}
use Rattle.laws_of_events.proofs.changes.failed_storage_leaves.Goals as goal

pub returns : goal.returns
returns c = storage_left
