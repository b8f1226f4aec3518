use Rattle.std.proofs.Common.{refl}
use Rattle.bm_base.specs.Machine.Levels.{level_of}
use Rattle.worked_examples.proofs.levels.first_replica_makes_a_block_the_first_to_copy.Goals as goal

pub returns : goal.returns
unfolding level_of
returns c = (refl, refl, refl)
