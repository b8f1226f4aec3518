use Rattle.std.proofs.Common.{ℕ, drop}
use Rattle.bm_levels.specs.IndexedLevels.{HasCapacityFor, indexed_slots}
use Rattle.bm_levels.specs.ClusterAfter.{rack_after, drains_after}
use Rattle.bm_levels.proofs.StatusUpdates.{IsUnderway}
use Rattle.bm_levels.proofs.level_index.LevelIndex.reclassify_every_block.Given as goal

-- the slots so far are classified, and there is capacity for all
pub record AreClassifiedSoFar (l : goal.Live-loop-index) : Type 0 where
  pub underway : IsUnderway (rack_after l.cluster_after) (drains_after l.cluster_after) l.cluster_after.multi l.arena (indexed_slots l.arena) (drop l.index (indexed_slots l.arena)) l.initial.self l.self
  pub capacity : (bound : ℕ) → HasCapacityFor l.initial.self bound → HasCapacityFor l.self bound

abbrev pub invariant-loop-index : goal.invariant-loop-index
invariant-loop-index l = AreClassifiedSoFar l
