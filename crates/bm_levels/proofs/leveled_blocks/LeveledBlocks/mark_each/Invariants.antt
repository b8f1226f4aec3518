use Rattle.std.proofs.Common.{◌≡◌, ℕ, Some, false, drop}
use Rattle.bm_base.specs.Maps.Map.{revise}
use Rattle.bm_arena.specs.Contents.{block_at, slot_of, KeepsEntries}
use Rattle.bm_arena.specs.HeldMaps.{replicas_of}
use Rattle.bm_levels.specs.Changes.{has_block}
use Rattle.bm_levels.specs.LeveledBlocks.{AreLevels}
use Rattle.bm_levels.proofs.ListedMarks.{excess_by}
use Rattle.bm_levels.proofs.leveled_blocks.LeveledBlocks.mark_each.Given as goal

-- marking the replicas from this index on completes the marks, and blocks without a listed replica
-- are as before
pub record AreMarkedSoFar (l : goal.Live-loop-replica) : Type 0 where
  pub replicas : revise (replicas_of l.self.arena) (excess_by (drop l.replica-index l.listed)) ≡ revise (replicas_of l.initial.self.arena) (excess_by l.listed)
  pub others : (slot : ℕ) → ((b : ℕ) → slot_of l.initial.self.arena b ≡ Some slot → has_block l.listed b ≡ false) → block_at l.self.arena slot ≡ block_at l.initial.self.arena slot
  pub entries : KeepsEntries l.initial.self.arena l.self.arena
  pub levels : AreLevels l.topology.cluster l.initial.self → AreLevels l.topology.cluster l.self

abbrev pub invariant-loop-replica : goal.invariant-loop-replica
invariant-loop-replica l = AreMarkedSoFar l
