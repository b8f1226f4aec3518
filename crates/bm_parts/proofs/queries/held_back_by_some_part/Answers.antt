use Rattle.bm_parts.proofs.HeldBack.{held_back_by_some_part}
use Rattle.bm_parts.proofs.queries.held_back_by_some_part.Goals as goal

pub returns : goal.returns
returns c = held_back_by_some_part
