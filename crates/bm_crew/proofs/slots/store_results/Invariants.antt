use Rattle.std.proofs.Common.{◌≡◌, ◌++◌, vec_len}
use Rattle.std.specs.Vec.Iter.{into_iter_items}
use Rattle.bm_crew.specs.Work.{slots_after}
use Rattle.bm_crew.proofs.slots.store_results.Given as goal

abbrev pub invariant-loop-index : goal.invariant-loop-index
invariant-loop-index g l =
    (l.fn.made.items ≡ l.yielded ++ into_iter_items l.index-iterator)
    × (l.slots.items ≡ slots_after l.fn.slots.items l.yielded)
    × (vec_len l.slots ≡ vec_len l.fn.slots)
