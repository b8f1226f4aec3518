use Rattle.laws_of_states.proofs.FirstState.{first_lawful}
use Rattle.laws_of_events.proofs.lawful_states.first_state_is_lawful.Goals as goal

pub returns : goal.returns
returns c = first_lawful
