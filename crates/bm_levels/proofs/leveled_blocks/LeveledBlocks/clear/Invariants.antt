use Rattle.std.proofs.Common.{◌≤◌, ◌+◌, length}
use Rattle.std.specs.Prelude.{◌==◌}
use Rattle.bm_arena.specs.Contents.{list_of}
use Rattle.bm_levels.specs.UnusedEntries.{MakesNoUnused}
use Rattle.bm_levels.specs.LeavingReplicas.{IsLeaving, MakesNoHead}
use Rattle.bm_levels.specs.ClusterAfter.{KeepsLevelsAfter}
use Rattle.bm_levels.proofs.leveled_blocks.LeveledBlocks.clear.Given as goal

-- `removed` replicas have left, and with those still to leave there are at most `bound`
pub record AreLeaving (l : goal.Live-loop-self) : Type 0 where
  pub left : IsLeaving (λ s. s == l.storage) l.initial.self.arena l.self.arena l.removed
  pub few : l.removed + length (list_of l.self.arena l.storage) ≤ l.bound
  pub unused : MakesNoUnused l.initial.self.arena l.self.arena
  pub fewer : MakesNoHead l.initial.self.arena l.self.arena
  pub levels : KeepsLevelsAfter l.cluster_after l.initial.self l.self

abbrev pub decreases-loop-self : goal.decreases-loop-self
decreases-loop-self l = length (list_of l.self.arena l.storage)

abbrev pub invariant-loop-self : goal.invariant-loop-self
invariant-loop-self l = AreLeaving l
