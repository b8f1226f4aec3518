use Rattle.laws_of_events.proofs.BlockChanges.{block_added}
use Rattle.laws_of_events.proofs.changes.added_block_is_known.Goals as goal

pub returns : goal.returns
returns c = block_added
