use Rattle.laws_of_events.proofs.RunLaws.{backward}
use Rattle.laws_of_events.proofs.runs.backward_run_names_none.Goals as goal

pub returns : goal.returns
returns c = backward
