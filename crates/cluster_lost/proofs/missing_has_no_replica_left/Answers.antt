use Rattle.cluster_lost.proofs.RemainingReplicas.{left_law}
use Rattle.cluster_lost.proofs.missing_has_no_replica_left.Goals as goal

pub returns : goal.returns
returns c = left_law
