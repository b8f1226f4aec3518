use Rattle.laws_of_events.proofs.LawfulStates.{refusal_leaves}
use Rattle.laws_of_events.proofs.lawful_states.refusal_leaves_state.Goals as goal

pub returns : goal.returns
returns c = refusal_leaves
