use Rattle.bm_saved.proofs.BlocksSavedAgain.{restored_block_is_saved}
use Rattle.bm_saved.proofs.blocks.restored_block_is_saved.Goals as goal

pub returns : goal.returns
returns c = restored_block_is_saved
