use Rattle.bm_base.specs.Promises.Lawful.{IsOrderly}
use Rattle.bm_base.specs.Machine.State.{State}
use Rattle.laws_of_states.proofs.OrderlyStates.{calls_orderly}
use Rattle.laws_of_states.proofs.LawfulRounds.{orderly}
use Rattle.laws_of_rounds.proofs.Needs.{highest, not_missing}
use Rattle.laws_of_rounds.specs.Levels.{OnlyDrainedIsLevelZero}
use Rattle.laws_of_rounds.proofs.levels.only_drained_is_level_zero.Goals as goal

in_orderly : (M : State) → IsOrderly M → OnlyDrainedIsLevelZero M
in_orderly M O = λ b i known none some.
    let first = highest M.cluster M.holdings b i (O.holdings.replicated b i known).0 known none some in
    (first, not_missing M.cluster M.holdings b first)

pub returns-clause-lawful : goal.returns-clause-lawful
returns-clause-lawful c = λ M L. in_orderly M (orderly M L)

pub returns-clause-reached : goal.returns-clause-reached
returns-clause-reached c = λ l config ks. in_orderly _ (calls_orderly l config ks)
