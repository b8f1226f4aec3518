use Rattle.laws_of_events.proofs.StatesAfterCalls.{event_counted}
use Rattle.laws_of_events.proofs.calls.event_is_counted.Goals as goal

pub returns : goal.returns
returns c = event_counted
