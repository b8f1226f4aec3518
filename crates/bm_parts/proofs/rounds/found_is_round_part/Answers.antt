use Rattle.bm_parts.proofs.FoundLists.{found_is_round_part}
use Rattle.bm_parts.proofs.rounds.found_is_round_part.Goals as goal

pub returns : goal.returns
returns c = found_is_round_part
