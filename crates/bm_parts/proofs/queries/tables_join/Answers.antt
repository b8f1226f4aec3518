use Rattle.bm_parts.proofs.JoinedBlocks.{tables_join}
use Rattle.bm_parts.proofs.queries.tables_join.Goals as goal

pub returns : goal.returns
returns c = tables_join
