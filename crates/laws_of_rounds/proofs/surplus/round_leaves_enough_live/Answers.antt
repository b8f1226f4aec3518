use Rattle.laws_of_rounds.proofs.DeleteReasons.{leaves_enough}
use Rattle.laws_of_rounds.proofs.surplus.round_leaves_enough_live.Goals as goal

pub returns : goal.returns
returns c = leaves_enough
