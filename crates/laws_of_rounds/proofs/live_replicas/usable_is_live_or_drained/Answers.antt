use Rattle.laws_of_rounds.proofs.UsableReplicas.{usable_is}
use Rattle.laws_of_rounds.proofs.live_replicas.usable_is_live_or_drained.Goals as goal

pub returns : goal.returns
returns c = usable_is
