use Rattle.laws_of_states.proofs.AcceptedEvents.{event_lawful}
use Rattle.laws_of_events.proofs.lawful_states.event_keeps_lawful.Goals as goal

pub returns : goal.returns
returns c = event_lawful
