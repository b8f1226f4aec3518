use Rattle.bm_base.specs.Promises.Lawful.{IsOrderly}
use Rattle.bm_base.specs.Machine.State.{State}
use Rattle.laws_of_states.proofs.OrderlyStates.{calls_orderly}
use Rattle.laws_of_states.proofs.LawfulRounds.{orderly}
use Rattle.laws_of_rounds.proofs.MarkedRacks.{last_stays}
use Rattle.laws_of_rounds.specs.Surplus.{LastOfRackStays}
use Rattle.laws_of_rounds.proofs.surplus.last_of_rack_stays.Goals as goal

in_orderly : (M : State) → IsOrderly M → LastOfRackStays M
in_orderly M O = λ b s t u. last_stays M b s t u O

pub returns-clause-lawful : goal.returns-clause-lawful
returns-clause-lawful c = λ M L. in_orderly M (orderly M L)

pub returns-clause-reached : goal.returns-clause-reached
returns-clause-reached c = λ l config ks. in_orderly _ (calls_orderly l config ks)
