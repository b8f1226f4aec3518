use Rattle.laws_of_rounds.proofs.UsableReplicas.{drained_once}
use Rattle.laws_of_rounds.proofs.live_replicas.drained_is_distinct.Goals as goal

pub returns : goal.returns
returns c = drained_once
