use Rattle.laws_of_events.proofs.RunLaws.{one_by_one}
use Rattle.laws_of_events.proofs.runs.runs_are_alike_one_by_one.Goals as goal

pub returns : goal.returns
returns c = one_by_one
