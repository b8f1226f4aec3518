use Rattle.bm_base.specs.Machine.State.{State}
use Rattle.bm_base.specs.Promises.Lawful.{IsOrderly}
use Rattle.laws_of_states.proofs.LawfulRounds.{orderly}
use Rattle.laws_of_states.proofs.OrderlyStates.{calls_orderly}
use Rattle.laws_of_events.specs.Reports.{received_leaves_bad_bad}
use Rattle.laws_of_events.proofs.ReportLaws.{received_leaves_bad}
use Rattle.laws_of_events.proofs.reports.received_leaves_bad_bad.Goals as goal

in_orderly : (M : State) → IsOrderly M → received_leaves_bad_bad M
in_orderly M O = received_leaves_bad M O

pub returns-clause-lawful : goal.returns-clause-lawful
returns-clause-lawful c = λ M L. in_orderly M (orderly M L)

pub returns-clause-reached : goal.returns-clause-reached
returns-clause-reached c = λ l config ks. in_orderly _ (calls_orderly l config ks)
