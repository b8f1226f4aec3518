use Rattle.std.proofs.Common.{ℕ, drop}
use Rattle.bm_levels.specs.IndexedLevels.{HasCapacityFor}
use Rattle.bm_levels.specs.ClusterAfter.{rack_after, drains_after}
use Rattle.bm_levels.proofs.StatusUpdates.{IsUnderway}
use Rattle.bm_levels.proofs.level_index.LevelIndex.reclassify_chunk.Given as goal

-- the status of the slots so far is stored, and there is capacity for all
pub record AreKeptSoFar (l : goal.Live-loop-index) : Type 0 where
  pub underway : IsUnderway (rack_after l.cluster_after) (drains_after l.cluster_after) l.cluster_after.multi l.arena l.chunk (drop l.index l.chunk) l.initial.self l.self
  pub capacity : (bound : ℕ) → HasCapacityFor l.initial.self bound → HasCapacityFor l.self bound

abbrev pub invariant-loop-index : goal.invariant-loop-index
invariant-loop-index l = AreKeptSoFar l
