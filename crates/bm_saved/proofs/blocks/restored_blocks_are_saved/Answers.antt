use Rattle.bm_saved.proofs.LinesSavedAgain.{restored_blocks_are_saved}
use Rattle.bm_saved.proofs.blocks.restored_blocks_are_saved.Goals as goal

pub returns : goal.returns
returns c = restored_blocks_are_saved
