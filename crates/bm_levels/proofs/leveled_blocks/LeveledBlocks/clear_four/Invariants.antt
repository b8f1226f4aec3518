use Rattle.std.proofs.Common.{◌≤◌, ◌*◌}
use Rattle.bm_levels.specs.UnusedEntries.{MakesNoUnused}
use Rattle.bm_levels.specs.LeavingReplicas.{IsLeaving, MakesNoHead}
use Rattle.bm_levels.specs.ClusterAfter.{is_on_node, KeepsLevelsAfter}
use Rattle.bm_levels.proofs.leveled_blocks.LeveledBlocks.clear_four.Given as goal

-- `removed` replicas have left
pub record AreLeaving (l : goal.Live-loop-pass) : Type 0 where
  pub left : IsLeaving (is_on_node l.cluster_after l.node) l.initial.self.arena l.self.arena l.removed
  pub few : l.removed ≤ l.pass * 256
  pub unused : MakesNoUnused l.initial.self.arena l.self.arena
  pub fewer : MakesNoHead l.initial.self.arena l.self.arena
  pub levels : KeepsLevelsAfter l.cluster_after l.initial.self l.self

abbrev pub invariant-loop-pass : goal.invariant-loop-pass
invariant-loop-pass l = AreLeaving l
