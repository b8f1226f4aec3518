use Rattle.laws_of_events.proofs.LimitedMemory.{refused_leaves}
use Rattle.laws_of_events.proofs.calls.refused_answer_leaves_state.Goals as goal

pub returns : goal.returns
returns c = refused_leaves
