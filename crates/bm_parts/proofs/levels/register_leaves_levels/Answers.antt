use Rattle.bm_parts.proofs.ClusterLevels.{register_leaves_levels}
use Rattle.bm_parts.proofs.levels.register_leaves_levels.Goals as goal

pub returns : goal.returns
returns c = register_leaves_levels
