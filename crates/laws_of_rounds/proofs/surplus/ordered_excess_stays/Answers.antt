use Rattle.laws_of_rounds.proofs.DeleteReasons.{ordered_stays_excess}
use Rattle.laws_of_rounds.proofs.surplus.ordered_excess_stays.Goals as goal

pub returns : goal.returns
returns c = ordered_stays_excess
