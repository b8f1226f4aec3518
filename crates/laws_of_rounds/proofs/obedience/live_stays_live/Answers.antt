use Rattle.bm_base.proofs.ForEach.{each_all}
use Rattle.laws_of_rounds.specs.Obedience.{Obeys}
use Rattle.laws_of_rounds.proofs.DuringObedience.{stays_live}
use Rattle.laws_of_rounds.proofs.obedience.live_stays_live.Goals as goal

pub returns : goal.returns
returns c = λ M es b s only there. stays_live M b s there es (each_all (Obeys M) es only)
