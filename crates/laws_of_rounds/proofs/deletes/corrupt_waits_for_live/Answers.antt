use Rattle.bm_base.specs.Promises.Lawful.{IsOrderly}
use Rattle.bm_base.specs.Machine.State.{State}
use Rattle.laws_of_states.proofs.OrderlyStates.{calls_orderly}
use Rattle.laws_of_states.proofs.LawfulRounds.{orderly}
use Rattle.laws_of_states.proofs.CommandedDeletes.{tested}
use Rattle.laws_of_rounds.proofs.DeleteReasons.{corrupt_waits}
use Rattle.laws_of_rounds.specs.Deletes.{CorruptWaitsForLive}
use Rattle.laws_of_rounds.proofs.deletes.corrupt_waits_for_live.Goals as goal

in_orderly : (M : State) → IsOrderly M → CorruptWaitsForLive M
in_orderly M O = λ q m h. corrupt_waits M q m O (tested M q h)

pub returns-clause-lawful : goal.returns-clause-lawful
returns-clause-lawful c = λ M L. in_orderly M (orderly M L)

pub returns-clause-reached : goal.returns-clause-reached
returns-clause-reached c = λ l config ks. in_orderly _ (calls_orderly l config ks)
