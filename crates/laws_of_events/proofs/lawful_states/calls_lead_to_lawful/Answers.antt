use Rattle.laws_of_events.proofs.LawfulStates.{lawful_from_first}
use Rattle.laws_of_events.proofs.lawful_states.calls_lead_to_lawful.Goals as goal

pub returns : goal.returns
returns c = lawful_from_first
