use Rattle.laws_of_states.proofs.OrderlyStates.{calls_orderly}
use Rattle.laws_of_events.proofs.lawful_states.calls_lead_to_orderly.Goals as goal

pub returns : goal.returns
returns c = calls_orderly
