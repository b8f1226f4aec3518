use Rattle.bm_parts.proofs.JoinedReplicas.{replicas_join}
use Rattle.bm_parts.proofs.queries.replicas_join.Goals as goal

pub returns : goal.returns
returns c = replicas_join
