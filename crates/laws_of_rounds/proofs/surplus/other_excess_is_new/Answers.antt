use Rattle.laws_of_rounds.proofs.DeleteReasons.{other_is_new}
use Rattle.laws_of_rounds.proofs.surplus.other_excess_is_new.Goals as goal

pub returns : goal.returns
returns c = other_is_new
