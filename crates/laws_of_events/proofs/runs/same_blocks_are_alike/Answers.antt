use Rattle.laws_of_events.proofs.RunLaws.{same_expansion}
use Rattle.laws_of_events.proofs.runs.same_blocks_are_alike.Goals as goal

pub returns : goal.returns
returns c = same_expansion
