use Rattle.bm_parts.proofs.ClusterLevels.{failure_leaves_levels}
use Rattle.bm_parts.proofs.levels.failure_leaves_levels.Goals as goal

pub returns : goal.returns
returns c = failure_leaves_levels
