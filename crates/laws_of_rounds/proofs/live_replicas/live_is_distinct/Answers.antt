use Rattle.laws_of_rounds.proofs.UsableReplicas.{live_once}
use Rattle.laws_of_rounds.proofs.live_replicas.live_is_distinct.Goals as goal

pub returns : goal.returns
returns c = live_once
