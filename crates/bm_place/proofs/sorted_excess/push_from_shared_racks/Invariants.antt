use Rattle.std.proofs.Common.{◌++◌, drop, ℕ, List}
use Rattle.bm_base.specs.Words.{Cluster, excess_among}
use Rattle.bm_place.specs.SortedExcess.{AreReady}
use Rattle.bm_place.proofs.SinglePass.{Passes}
use Rattle.bm_place.proofs.sorted_excess.push_from_shared_racks.Given as goal

-- the remaining storages are those that are kept and those that are still to be passed
abbrev pub invariant-loop-holder : goal.invariant-loop-holder
invariant-loop-holder l =
    (C : Cluster) (ss : List ℕ) → AreReady C ss l.holders l.initial.racks.map
    → Passes C l.racks.map l.more l.into.items l.kept.items (drop l.holder-index ss) (l.initial.into.items ++ excess_among C l.surplus ss)
