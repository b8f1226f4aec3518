use Rattle.bm_parts.proofs.DrainChanges.{undrain_leaves_levels}
use Rattle.bm_parts.proofs.levels.undrain_leaves_levels.Goals as goal

pub returns : goal.returns
returns c = undrain_leaves_levels
