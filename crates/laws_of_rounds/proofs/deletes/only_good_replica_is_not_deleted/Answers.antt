use Rattle.bm_base.specs.Promises.Lawful.{IsOrderly}
use Rattle.bm_base.specs.Machine.State.{State, replica_at}
use Rattle.laws_of_states.proofs.LastGood.{only_good_stays}
use Rattle.laws_of_states.proofs.OrderlyStates.{calls_orderly}
use Rattle.laws_of_states.proofs.LawfulRounds.{orderly}
use Rattle.laws_of_states.proofs.CommandedDeletes.{tested}
use Rattle.laws_of_rounds.specs.Deletes.{OnlyGoodReplicaIsNotDeleted}
use Rattle.laws_of_rounds.proofs.deletes.only_good_replica_is_not_deleted.Goals as goal

in_orderly : (M : State) → IsOrderly M → OnlyGoodReplicaIsNotDeleted M
in_orderly M O = λ b s i known only h. only_good_stays M b s i O known only (tested M (replica_at b s) h)

pub returns-clause-lawful : goal.returns-clause-lawful
returns-clause-lawful c = λ M L. in_orderly M (orderly M L)

pub returns-clause-reached : goal.returns-clause-reached
returns-clause-reached c = λ l config ks. in_orderly _ (calls_orderly l config ks)
