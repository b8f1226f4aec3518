use Rattle.bm_saved.proofs.RestoredCluster.{cluster_is_restored}
use Rattle.bm_saved.proofs.nodes.cluster_is_restored.Goals as goal

pub returns : goal.returns
returns c = cluster_is_restored
