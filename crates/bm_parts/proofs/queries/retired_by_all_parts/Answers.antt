use Rattle.bm_parts.proofs.HeldBack.{retired_by_all_parts}
use Rattle.bm_parts.proofs.queries.retired_by_all_parts.Goals as goal

pub returns : goal.returns
returns c = retired_by_all_parts
