use Rattle.laws_of_states.proofs.LiveReplicas.{drained_is}
use Rattle.laws_of_rounds.proofs.live_replicas.drained_is_good_not_in_excess_and_draining.Goals as goal

pub returns : goal.returns
returns c = drained_is
