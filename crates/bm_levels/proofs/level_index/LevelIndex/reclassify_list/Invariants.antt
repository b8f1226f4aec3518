use Rattle.std.proofs.Common.{ℕ}
use Rattle.bm_maps.specs.SlotLists.{IsMember}
use Rattle.bm_arena.specs.Contents.{list_of}
use Rattle.bm_levels.specs.IndexedLevels.{HasCapacityFor}
use Rattle.bm_levels.specs.ClusterAfter.{rack_after, drains_after}
use Rattle.bm_levels.proofs.StatusUpdates.{IsUnderway}
use Rattle.bm_levels.proofs.level_index.LevelIndex.reclassify_list.Given as goal

-- the slots so far are classified, and there is capacity for all
pub record AreClassifiedSoFar (l : goal.Live-loop-slot) : Type 0 where
  pub underway : IsUnderway (rack_after l.cluster_after) (drains_after l.cluster_after) l.cluster_after.multi l.arena (list_of l.arena l.fn.storage) l.slot-iterator l.initial.self l.self
  pub listed : (slot : ℕ) → IsMember slot l.slot-iterator → IsMember slot (list_of l.arena l.fn.storage)
  pub capacity : (bound : ℕ) → HasCapacityFor l.initial.self bound → HasCapacityFor l.self bound

abbrev pub invariant-loop-slot : goal.invariant-loop-slot
invariant-loop-slot l = AreClassifiedSoFar l
