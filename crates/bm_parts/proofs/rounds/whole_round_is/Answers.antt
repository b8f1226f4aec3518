use Rattle.bm_parts.proofs.MergedChoices.{whole_round_is}
use Rattle.bm_parts.proofs.rounds.whole_round_is.Goals as goal

pub returns : goal.returns
returns c = whole_round_is
