use Rattle.bm_parts.proofs.WholeParts.{parts_are_the_whole}
use Rattle.bm_parts.proofs.whole.parts_are_the_whole.Goals as goal

pub returns : goal.returns
returns c = parts_are_the_whole
