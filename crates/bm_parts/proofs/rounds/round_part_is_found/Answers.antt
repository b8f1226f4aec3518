use Rattle.bm_parts.proofs.FoundLists.{round_part_is_found}
use Rattle.bm_parts.proofs.rounds.round_part_is_found.Goals as goal

pub returns : goal.returns
returns c = round_part_is_found
