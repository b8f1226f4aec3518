use Rattle.laws_of_rounds.proofs.Needs.{short}
use Rattle.laws_of_rounds.proofs.levels.short_of_replicas_is_level_zero_one_two_or_four.Goals as goal

pub returns : goal.returns
returns c = λ M b i known. short M.cluster M.holdings b i known
