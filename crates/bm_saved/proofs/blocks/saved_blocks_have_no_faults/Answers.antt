use Rattle.bm_saved.proofs.BlocksWithoutFaults.{saved_blocks_have_no_faults}
use Rattle.bm_saved.proofs.blocks.saved_blocks_have_no_faults.Goals as goal

pub returns : goal.returns
returns c = saved_blocks_have_no_faults
