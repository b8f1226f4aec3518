use Rattle.bm_parts.proofs.ClusterLevels.{heartbeat_leaves_racks}
use Rattle.bm_parts.proofs.levels.heartbeat_leaves_racks.Goals as goal

pub returns : goal.returns
returns c = heartbeat_leaves_racks
