use Rattle.laws_of_rounds.proofs.DeleteReasons.{not_ordered}
use Rattle.laws_of_states.proofs.CommandedDeletes.{tested}
use Rattle.laws_of_rounds.proofs.deletes.none_is_ordered_again.Goals as goal

pub returns : goal.returns
returns c = λ M q h. not_ordered M q (tested M q h)
