use Rattle.laws_of_events.proofs.BlockChanges.{block_deleted}
use Rattle.laws_of_events.proofs.changes.deleted_block_is_stray.Goals as goal

pub returns : goal.returns
returns c = block_deleted
