use Rattle.laws_of_rounds.proofs.DeleteReasons.{none_made_live}
use Rattle.laws_of_rounds.proofs.surplus.marking_makes_none_live.Goals as goal

pub returns : goal.returns
returns c = none_made_live
