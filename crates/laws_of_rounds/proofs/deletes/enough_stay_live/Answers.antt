use Rattle.bm_base.specs.Promises.Lawful.{IsOrderly}
use Rattle.bm_base.specs.Machine.State.{State, replica_at}
use Rattle.laws_of_states.proofs.LiveAfterRound.{enough_stay}
use Rattle.laws_of_states.proofs.OrderlyStates.{calls_orderly}
use Rattle.laws_of_states.proofs.LawfulRounds.{orderly}
use Rattle.laws_of_states.proofs.CommandedDeletes.{tested}
use Rattle.laws_of_rounds.specs.Deletes.{EnoughStayLive}
use Rattle.laws_of_rounds.proofs.deletes.enough_stay_live.Goals as goal

in_orderly : (M : State) → IsOrderly M → EnoughStayLive M
in_orderly M O = λ b s i known h. enough_stay M b s i O known (tested M (replica_at b s) h)

pub returns-clause-lawful : goal.returns-clause-lawful
returns-clause-lawful c = λ M L. in_orderly M (orderly M L)

pub returns-clause-reached : goal.returns-clause-reached
returns-clause-reached c = λ l config ks. in_orderly _ (calls_orderly l config ks)
