use Rattle.bm_parts.proofs.SettledBlocks.{settled_is_kept}
use Rattle.bm_parts.proofs.settled_blocks.settled_is_kept.Goals as goal

pub returns : goal.returns
returns c = settled_is_kept
