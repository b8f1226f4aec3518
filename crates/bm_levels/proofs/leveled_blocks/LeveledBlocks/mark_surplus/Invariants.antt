use Rattle.std.proofs.Common.{◌≡◌, ℕ, Some, false, length}
use Rattle.bm_base.specs.Maps.Map.{revise}
use Rattle.bm_arena.specs.Contents.{block_at, slot_of, KeepsEntries}
use Rattle.bm_arena.specs.HeldMaps.{replicas_of}
use Rattle.bm_levels.specs.Changes.{has_block, AreInOrder}
use Rattle.bm_levels.specs.LeveledBlocks.{AreLevels}
use Rattle.bm_levels.proofs.ListedMarks.{excess_by}
use Rattle.bm_levels.proofs.leveled_blocks.LeveledBlocks.mark_surplus.Given as goal

-- marking the remaining replicas completes the marks, and blocks without a listed replica are as
-- before
pub record AreMarkedSoFar (l : goal.Live-loop-first) : Type 0 where
  pub replicas : revise (replicas_of l.self.arena) (excess_by l.rest) ≡ revise (replicas_of l.initial.self.arena) (excess_by l.surplus)
  pub others : (slot : ℕ) → ((b : ℕ) → slot_of l.initial.self.arena b ≡ Some slot → has_block l.surplus b ≡ false) → block_at l.self.arena slot ≡ block_at l.initial.self.arena slot
  pub entries : KeepsEntries l.initial.self.arena l.self.arena
  pub levels : AreLevels l.topology.cluster l.initial.self → AreLevels l.topology.cluster l.self
  pub listed : (b : ℕ) → has_block l.surplus b ≡ false → has_block l.rest b ≡ false
  pub order : AreInOrder l.rest

abbrev pub decreases-loop-first : goal.decreases-loop-first
decreases-loop-first l = length l.rest

abbrev pub invariant-loop-first : goal.invariant-loop-first
invariant-loop-first l = AreMarkedSoFar l
