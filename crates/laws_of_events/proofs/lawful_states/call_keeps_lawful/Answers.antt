use Rattle.laws_of_events.proofs.LawfulStates.{step_lawful}
use Rattle.laws_of_events.proofs.lawful_states.call_keeps_lawful.Goals as goal

pub returns : goal.returns
returns c = step_lawful
