use Rattle.laws_of_rounds.proofs.DeleteReasons.{may_be_deleted}
use Rattle.laws_of_states.proofs.CommandedDeletes.{tested}
use Rattle.laws_of_rounds.proofs.deletes.only_stray_excess_or_corrupt_is_deleted.Goals as goal

pub returns : goal.returns
returns c = λ M q h. may_be_deleted M q (tested M q h)
