use Rattle.bm_saved.proofs.LawfulBlocks.{restored_block_is_lawful}
use Rattle.bm_saved.proofs.blocks.restored_block_is_lawful.Goals as goal

pub returns : goal.returns
returns c = restored_block_is_lawful
