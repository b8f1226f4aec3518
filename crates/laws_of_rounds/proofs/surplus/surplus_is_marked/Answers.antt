use Rattle.laws_of_rounds.proofs.DeleteReasons.{surplus_count}
use Rattle.laws_of_rounds.proofs.surplus.surplus_is_marked.Goals as goal

pub returns : goal.returns
returns c = surplus_count
