use Rattle.bm_parts.proofs.ClusterLevels.{death_leaves_levels}
use Rattle.bm_parts.proofs.levels.death_leaves_levels.Goals as goal

pub returns : goal.returns
returns c = death_leaves_levels
