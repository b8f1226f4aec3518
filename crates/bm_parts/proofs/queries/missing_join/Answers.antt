use Rattle.bm_parts.proofs.JoinedBlocks.{missing_join}
use Rattle.bm_parts.proofs.queries.missing_join.Goals as goal

pub returns : goal.returns
returns c = missing_join
