use Rattle.bm_parts.proofs.OneBlock.{event_leaves_other_levels}
use Rattle.bm_parts.proofs.levels.event_leaves_other_levels.Goals as goal

pub returns : goal.returns
returns c = event_leaves_other_levels
