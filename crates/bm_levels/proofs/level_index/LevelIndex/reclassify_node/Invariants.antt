use Rattle.std.proofs.Common.{ℕ, ◌⊎◌}
use Rattle.bm_maps.specs.SlotLists.{IsMember}
use Rattle.bm_arena.specs.Contents.{list_of, block_at}
use Rattle.bm_levels.specs.IndexedLevels.{HasCapacityFor, IsSameAt}
use Rattle.bm_levels.specs.ClusterAfter.{IsClassifiedAfter}
use Rattle.bm_levels.proofs.Indexes.{HaveGone}
use Rattle.bm_levels.proofs.level_index.LevelIndex.reclassify_node.Given as goal

-- the slots on the storages so far are classified, and there is capacity for all
pub record AreClassifiedSoFar (l : goal.Live-loop-storage) : Type 0 where
  pub each : (slot : ℕ) → IsClassifiedAfter l.cluster_after (block_at l.arena slot) l.self slot
      ⊎ (IsSameAt l.initial.self l.self slot × HaveGone l.storage-items (λ s. IsMember slot (list_of l.arena s) → ⊥) l.storage-index)
  pub capacity : (bound : ℕ) → HasCapacityFor l.initial.self bound → HasCapacityFor l.self bound

abbrev pub invariant-loop-storage : goal.invariant-loop-storage
invariant-loop-storage l = AreClassifiedSoFar l
