use Rattle.laws_of_events.proofs.RunLaws.{numbers_counted}
use Rattle.laws_of_events.proofs.runs.numbers_are_counted.Goals as goal

pub returns : goal.returns
returns c = numbers_counted
