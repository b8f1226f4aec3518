use Rattle.bm_parts.proofs.OneBlock.{round_end_leaves_levels}
use Rattle.bm_parts.proofs.levels.round_end_leaves_levels.Goals as goal

pub returns : goal.returns
returns c = round_end_leaves_levels
