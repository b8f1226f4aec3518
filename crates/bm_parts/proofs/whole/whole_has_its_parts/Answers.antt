use Rattle.bm_parts.proofs.WholeParts.{whole_has_its_parts}
use Rattle.bm_parts.proofs.whole.whole_has_its_parts.Goals as goal

pub returns : goal.returns
returns c = whole_has_its_parts
