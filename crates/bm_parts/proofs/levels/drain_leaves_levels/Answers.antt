use Rattle.bm_parts.proofs.DrainChanges.{drain_leaves_levels}
use Rattle.bm_parts.proofs.levels.drain_leaves_levels.Goals as goal

pub returns : goal.returns
returns c = drain_leaves_levels
