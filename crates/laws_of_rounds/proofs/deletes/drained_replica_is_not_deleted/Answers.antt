use Rattle.bm_base.specs.Machine.State.{replica_at}
use Rattle.laws_of_states.proofs.CommandedDeletes.{tested}
use Rattle.laws_of_rounds.proofs.DrainingNodes.{drained_kept}
use Rattle.laws_of_rounds.proofs.deletes.drained_replica_is_not_deleted.Goals as goal

pub returns : goal.returns
returns c = λ M b t there h. drained_kept M b t there (tested M (replica_at b t) h)
