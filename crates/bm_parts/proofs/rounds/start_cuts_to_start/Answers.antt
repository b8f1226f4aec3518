use Rattle.bm_parts.proofs.CutParts.{start_cuts_to_start}
use Rattle.bm_parts.proofs.rounds.start_cuts_to_start.Goals as goal

pub returns : goal.returns
returns c = start_cuts_to_start
