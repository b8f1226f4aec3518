use Rattle.std.proofs.Common.{◌≡◌, ℕ}
use Rattle.std.specs.Slice.Iter.{chunks_rest, chunks_size}
use Rattle.bm_maps.specs.SlotLists.{IsMember}
use Rattle.bm_levels.specs.IndexedLevels.{HasCapacityFor}
use Rattle.bm_levels.specs.ClusterAfter.{rack_after, drains_after}
use Rattle.bm_levels.proofs.StatusUpdates.{IsUnderway}
use Rattle.bm_levels.proofs.level_index.LevelIndex.classify_all.Given as goal

-- the slots so far are classified, and there is capacity for all
pub record AreClassifiedSoFar (l : goal.Live-loop-chunk) : Type 0 where
  pub finite : goal.iterator-loop-chunk.is_finite l.chunk-iterator
  pub size : chunks_size l.chunk-iterator ≡ 64
  pub underway : IsUnderway (rack_after l.cluster_after) (drains_after l.cluster_after) l.cluster_after.multi l.arena l.slots (chunks_rest l.chunk-iterator) l.initial.self l.self
  pub listed : (slot : ℕ) → IsMember slot (chunks_rest l.chunk-iterator) → IsMember slot l.slots
  pub capacity : (bound : ℕ) → HasCapacityFor l.initial.self bound → HasCapacityFor l.self bound

abbrev pub invariant-loop-chunk : goal.invariant-loop-chunk
invariant-loop-chunk l = AreClassifiedSoFar l
