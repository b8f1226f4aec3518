use Rattle.laws_of_events.proofs.StatesAfterCalls.{query_leaves}
use Rattle.laws_of_events.proofs.calls.query_leaves_state.Goals as goal

pub returns : goal.returns
returns c = query_leaves
