use Rattle.bm_parts.proofs.OneBlock.{settled_is_of_its_block}
use Rattle.bm_parts.proofs.settled_blocks.settled_is_of_its_block.Goals as goal

pub returns : goal.returns
returns c = settled_is_of_its_block
