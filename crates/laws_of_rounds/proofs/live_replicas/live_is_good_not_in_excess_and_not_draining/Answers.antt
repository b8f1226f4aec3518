use Rattle.laws_of_states.proofs.LiveReplicas.{live_is}
use Rattle.laws_of_rounds.proofs.live_replicas.live_is_good_not_in_excess_and_not_draining.Goals as goal

pub returns : goal.returns
returns c = live_is
