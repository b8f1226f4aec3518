use Rattle.bm_saved.proofs.BlocksInOrder.{restored_block_is_in_order}
use Rattle.bm_saved.proofs.blocks.restored_block_is_in_order.Goals as goal

pub returns : goal.returns
returns c = restored_block_is_in_order
