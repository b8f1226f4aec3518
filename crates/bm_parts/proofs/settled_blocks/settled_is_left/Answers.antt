use Rattle.bm_parts.proofs.SettledBlocks.{settled_is_left}
use Rattle.bm_parts.proofs.settled_blocks.settled_is_left.Goals as goal

pub returns : goal.returns
returns c = settled_is_left
