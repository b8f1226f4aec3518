use Rattle.std.proofs.Common.{refl}
use Rattle.bm_saved.specs.Runs.{snapshot_after}
use Rattle.bm_saved.proofs.examples.snapshot_of_empty_lists.Goals as goal

pub returns : goal.returns
unfolding snapshot_after
returns c = refl
