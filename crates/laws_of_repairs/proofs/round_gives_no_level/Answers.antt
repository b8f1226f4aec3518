use Rattle.laws_of_states.proofs.LawfulRounds.{orderly}
use Rattle.laws_of_repairs.proofs.Rounds.{round_gives_none}
use Rattle.laws_of_repairs.proofs.round_gives_no_level.Goals as goal

pub returns : goal.returns
returns c = λ M L. round_gives_none M (orderly M L)
