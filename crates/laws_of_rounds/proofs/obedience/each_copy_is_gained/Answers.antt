use Rattle.laws_of_rounds.proofs.LiveCounts.{gained}
use Rattle.laws_of_rounds.proofs.obedience.each_copy_is_gained.Goals as goal

pub returns : goal.returns
returns c = gained
