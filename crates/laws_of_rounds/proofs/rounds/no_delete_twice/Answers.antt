use Rattle.bm_base.specs.Promises.NextRound.{after_round}
use Rattle.laws_of_rounds.specs.Rounds.{after_rounds}
use Rattle.laws_of_rounds.proofs.NextRounds.{no_delete_twice}
use Rattle.laws_of_states.proofs.CommandedDeletes.{tested}
use Rattle.laws_of_rounds.proofs.rounds.no_delete_twice.Goals as goal

pub returns : goal.returns
returns c = λ M n q h again. no_delete_twice M n q (tested M q h) (tested (after_rounds n (after_round M)) q again)
