use Rattle.std.proofs.Common.{sym}
use Rattle.bm_arena.proofs.Triplets.{change_triplet-index, change_triplet-no_index}
use Rattle.bm_arena.specs.Triplets.{with_previous}
use Rattle.bm_arena.proofs.links.set_triplet_previous.Goals as goal

pub returns-in-Some : goal.returns-in-Some
returns-in-Some c =
    sym (change_triplet-index (with_previous c.args.previous) c.args.triplets.now c.args.storage c.in-Some.index _ (sym (c.in-Some.ensures)))

pub returns-in_default : goal.returns-in_default
returns-in_default c =
    sym (change_triplet-no_index (with_previous c.args.previous) c.args.triplets.now c.args.storage (sym (c.in_default.ensures)))
