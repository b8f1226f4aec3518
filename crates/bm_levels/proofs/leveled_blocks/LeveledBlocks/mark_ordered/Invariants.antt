use Rattle.std.proofs.Common.{◌≡◌, drop}
use Rattle.bm_base.specs.Maps.Map.{revise}
use Rattle.bm_arena.specs.HeldMaps.{replicas_of, blocks_of}
use Rattle.bm_levels.specs.LeveledBlocks.{AreLevels}
use Rattle.bm_levels.proofs.ListedMarks.{with_deletes_ordered}
use Rattle.bm_levels.proofs.leveled_blocks.LeveledBlocks.mark_ordered.Given as goal

-- ordering the deletes from this index on completes the orders
pub record AreOrderedSoFar (l : goal.Live-loop-delete) : Type 0 where
  pub replicas : revise (replicas_of l.self.arena) (with_deletes_ordered l.part.index l.part.shards (drop l.delete-index l.deletes)) ≡ revise (replicas_of l.initial.self.arena) (with_deletes_ordered l.part.index l.part.shards l.deletes)
  pub blocks : blocks_of l.self.arena ≡ blocks_of l.initial.self.arena
  pub numbers : l.self.arena.ids ≡ l.initial.self.arena.ids
  pub levels : AreLevels l.topology.cluster l.initial.self → AreLevels l.topology.cluster l.self

abbrev pub invariant-loop-delete : goal.invariant-loop-delete
invariant-loop-delete l = AreOrderedSoFar l
