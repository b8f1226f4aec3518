use Rattle.laws_of_rounds.proofs.DeleteReasons.{drained_before_is}
use Rattle.laws_of_rounds.proofs.surplus.drained_before_marking.Goals as goal

pub returns : goal.returns
returns c = drained_before_is
