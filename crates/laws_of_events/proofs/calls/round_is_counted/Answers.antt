use Rattle.laws_of_events.proofs.StatesAfterCalls.{round_counted}
use Rattle.laws_of_events.proofs.calls.round_is_counted.Goals as goal

pub returns : goal.returns
returns c = round_counted
