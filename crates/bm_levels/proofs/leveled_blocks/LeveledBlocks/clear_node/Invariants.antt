use Rattle.std.proofs.Common.{◌≡◌, ◌≤◌, ◌+◌, ◌*◌, ◌^◌, []}
use Rattle.bm_arena.specs.Contents.{list_of, HasHead}
use Rattle.bm_levels.specs.UnusedEntries.{MakesNoUnused}
use Rattle.bm_levels.specs.LeavingReplicas.{IsLeaving, MakesNoHead}
use Rattle.bm_levels.specs.ClusterAfter.{is_on_node, KeepsLevelsAfter}
use Rattle.bm_levels.proofs.Indexes.{HaveGone}
use Rattle.bm_levels.proofs.leveled_blocks.LeveledBlocks.clear_node.Given as goal

-- the replicas on the node's storages so far have left
pub record AreLeaving (l : goal.Live-loop-storage) : Type 0 where
  pub left : IsLeaving (is_on_node l.cluster_after l.fn.node) l.fn.self.arena l.self.arena l.removed
  pub none : HaveGone l.storage-items (λ s. list_of l.self.arena s ≡ []) l.storage-index
  pub heads : HaveGone l.storage-items (λ s. HasHead l.self.arena s → ⊥) l.storage-index
  pub unused : MakesNoUnused l.fn.self.arena l.self.arena
  pub fewer : MakesNoHead l.fn.self.arena l.self.arena
  pub few : l.removed ≤ 2 ^ 99 + l.storage-index * 2 ^ 64
  pub levels : KeepsLevelsAfter l.cluster_after l.fn.self l.self

abbrev pub invariant-loop-storage : goal.invariant-loop-storage
invariant-loop-storage l = AreLeaving l
