use Rattle.bm_parts.proofs.CutParts.{end_cuts_to_end}
use Rattle.bm_parts.proofs.rounds.end_cuts_to_end.Goals as goal

pub returns : goal.returns
returns c = end_cuts_to_end
