use Rattle.std.proofs.Common.{refl}
use Rattle.bm_base.specs.Machine.Levels.{level_of}
use Rattle.worked_examples.proofs.levels.second_rack_may_raise_need.Goals as goal

pub returns : goal.returns
unfolding level_of
returns c = (refl, refl)
