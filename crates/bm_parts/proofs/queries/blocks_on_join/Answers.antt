use Rattle.bm_parts.proofs.JoinedReplicas.{blocks_on_join}
use Rattle.bm_parts.proofs.queries.blocks_on_join.Goals as goal

pub returns : goal.returns
returns c = blocks_on_join
