use Rattle.laws_of_events.proofs.LawfulStates.{orderly_left_from_first}
use Rattle.laws_of_events.proofs.lawful_states.answered_calls_lead_to_orderly.Goals as goal

pub returns : goal.returns
returns c = orderly_left_from_first
