use Rattle.bm_parts.proofs.JoinedReplicas.{marked_replicas_join}
use Rattle.bm_parts.proofs.queries.marked_replicas_join.Goals as goal

pub returns : goal.returns
returns c = marked_replicas_join
