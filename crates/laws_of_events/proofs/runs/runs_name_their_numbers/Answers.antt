use Rattle.laws_of_events.proofs.RunLaws.{named}
use Rattle.laws_of_events.proofs.runs.runs_name_their_numbers.Goals as goal

pub returns : goal.returns
returns c = named
