use Rattle.bm_base.specs.Promises.Lawful.{IsOrderly}
use Rattle.bm_base.specs.Machine.State.{State}
use Rattle.laws_of_states.proofs.OrderlyStates.{calls_orderly}
use Rattle.laws_of_states.proofs.LawfulRounds.{orderly}
use Rattle.laws_of_rounds.proofs.Needs.{four}
use Rattle.laws_of_rounds.specs.Levels.{LevelFourIsNoUsableReplica}
use Rattle.laws_of_rounds.proofs.levels.level_four_is_no_usable_replica.Goals as goal

in_orderly : (M : State) → IsOrderly M → LevelFourIsNoUsableReplica M
in_orderly M O = λ b i known. four M.cluster M.holdings b i (O.holdings.replicated b i known).0 known

pub returns-clause-lawful : goal.returns-clause-lawful
returns-clause-lawful c = λ M L. in_orderly M (orderly M L)

pub returns-clause-reached : goal.returns-clause-reached
returns-clause-reached c = λ l config ks. in_orderly _ (calls_orderly l config ks)
