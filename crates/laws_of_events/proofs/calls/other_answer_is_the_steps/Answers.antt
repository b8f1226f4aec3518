use Rattle.laws_of_events.proofs.LimitedMemory.{other_is_the_steps}
use Rattle.laws_of_events.proofs.calls.other_answer_is_the_steps.Goals as goal

pub returns : goal.returns
returns c = other_is_the_steps
