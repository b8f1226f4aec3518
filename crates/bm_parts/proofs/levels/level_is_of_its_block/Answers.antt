use Rattle.bm_parts.proofs.OneBlock.{level_is_of_its_block}
use Rattle.bm_parts.proofs.levels.level_is_of_its_block.Goals as goal

pub returns : goal.returns
returns c = level_is_of_its_block
