use Rattle.std.proofs.Common.{◌≡◌, ℕ, ◌<◌, false, Some}
use Rattle.std.specs.Prelude.{slice_get}
use Rattle.bm_base.specs.Machine.Replicas.{are_siblings}
use Rattle.bm_arena.specs.declared.arena.Triplet.{Triplet}
use Rattle.bm_report.proofs.reported_block.sibling_of.Given as goal

-- none of the triplets before this one is on another storage of the node
abbrev pub invariant-loop-triplet : goal.invariant-loop-triplet
invariant-loop-triplet l = (k : ℕ) → k < l.triplet-index → (t : Triplet) → slice_get l.triplets k ≡ Some t → are_siblings l.topology.cluster l.storage t.storage ≡ false
