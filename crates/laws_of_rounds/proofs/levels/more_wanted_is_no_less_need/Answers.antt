use Rattle.laws_of_rounds.proofs.Needs.{more_wanted}
use Rattle.laws_of_rounds.proofs.levels.more_wanted_is_no_less_need.Goals as goal

pub returns : goal.returns
returns c = more_wanted
