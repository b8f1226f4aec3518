use Rattle.laws_of_events.proofs.RunLaws.{cut_in_two}
use Rattle.laws_of_events.proofs.runs.run_may_be_cut.Goals as goal

pub returns : goal.returns
returns c = cut_in_two
