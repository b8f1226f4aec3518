use Rattle.laws_of_events.proofs.StatesAfterCalls.{limits_left}
use Rattle.laws_of_events.proofs.calls.call_leaves_cluster_limits.Goals as goal

pub returns : goal.returns
returns c = limits_left
