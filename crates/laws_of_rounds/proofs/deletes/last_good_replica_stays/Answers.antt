use Rattle.bm_base.specs.Promises.Lawful.{IsOrderly}
use Rattle.bm_base.specs.Machine.State.{State, replica_at}
use Rattle.laws_of_states.proofs.LiveAfterRound.{one_stays}
use Rattle.laws_of_states.proofs.OrderlyStates.{calls_orderly}
use Rattle.laws_of_states.proofs.LawfulRounds.{orderly}
use Rattle.laws_of_states.proofs.CommandedDeletes.{tested}
use Rattle.laws_of_rounds.specs.Deletes.{LastGoodReplicaStays}
use Rattle.laws_of_rounds.proofs.deletes.last_good_replica_stays.Goals as goal

in_orderly : (M : State) → IsOrderly M → LastGoodReplicaStays M
in_orderly M O = λ b s i known h.
    let left = one_stays M b s i O known (tested M (replica_at b s) h) in
    (left.0, left.1, λ again. left.2 (tested M (replica_at b left.0) again), left.3)

pub returns-clause-lawful : goal.returns-clause-lawful
returns-clause-lawful c = λ M L. in_orderly M (orderly M L)

pub returns-clause-reached : goal.returns-clause-reached
returns-clause-reached c = λ l config ks. in_orderly _ (calls_orderly l config ks)
