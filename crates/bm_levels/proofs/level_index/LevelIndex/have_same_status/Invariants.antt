use Rattle.std.proofs.Common.{◌≡◌, ◌<◌, ℕ, Some, true}
use Rattle.std.specs.Prelude.{slice_get, slice_index_or}
use Rattle.bm_levels.specs.declared.classification.BlockStatus.{BlockStatus}
use Rattle.bm_levels.specs.IndexedLevels.{HasStatus}
use Rattle.bm_levels.proofs.level_index.LevelIndex.have_same_status.Given as goal

abbrev pub invariant-loop-index : goal.invariant-loop-index
invariant-loop-index l =
    l.are_kept ≡ true → (i : ℕ) → i < l.index → (slot : ℕ) (default : BlockStatus) → slice_get l.chunk i ≡ Some slot → HasStatus l.self slot (slice_index_or l.status i default)
