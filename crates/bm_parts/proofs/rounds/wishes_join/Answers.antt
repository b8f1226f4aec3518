use Rattle.bm_parts.proofs.MergedChoices.{wishes_join}
use Rattle.bm_parts.proofs.rounds.wishes_join.Goals as goal

pub returns : goal.returns
returns c = wishes_join
