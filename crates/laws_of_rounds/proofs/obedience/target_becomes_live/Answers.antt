use Rattle.bm_base.proofs.ForEach.{each_all}
use Rattle.laws_of_rounds.specs.Obedience.{Obeys}
use Rattle.laws_of_rounds.proofs.LiveTargets.{target_live}
use Rattle.laws_of_rounds.proofs.obedience.target_becomes_live.Goals as goal

pub returns : goal.returns
returns c = λ M es t obeyed h. target_live M t h es (each_all (Obeys M) es obeyed.only) (obeyed.each_copied t h)
