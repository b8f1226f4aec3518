use Rattle.laws_of_rounds.proofs.DeleteReasons.{live_before_is}
use Rattle.laws_of_rounds.proofs.surplus.live_before_marking.Goals as goal

pub returns : goal.returns
returns c = live_before_is
