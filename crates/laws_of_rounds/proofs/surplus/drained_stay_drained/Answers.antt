use Rattle.laws_of_rounds.proofs.DrainingNodes.{drained_stay}
use Rattle.laws_of_rounds.proofs.surplus.drained_stay_drained.Goals as goal

pub returns : goal.returns
returns c = drained_stay
