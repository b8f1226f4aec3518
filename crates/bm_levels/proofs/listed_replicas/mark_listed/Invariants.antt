use Rattle.std.proofs.Common.{◌≡◌}
use Rattle.bm_arena.specs.Contents.{block_at, known_of, KeepsAllBut}
use Rattle.bm_arena.specs.HeldMaps.{replicas_at}
use Rattle.bm_levels.specs.Changes.{excess_on}
use Rattle.bm_levels.proofs.AllMarks.{changed_first}
use Rattle.bm_levels.proofs.listed_replicas.mark_listed.Given as goal

-- the replicas before this index have their new marks, and nothing else changed
pub record AreMarkedSoFar (l : goal.Live-loop-index) : Type 0 where
  pub replicas : replicas_at l.arena l.slot ≡ changed_first (excess_on l.listed) l.index (replicas_at l.initial.arena l.slot)
  pub known : known_of (block_at l.arena l.slot) ≡ known_of (block_at l.initial.arena l.slot)
  pub rest : KeepsAllBut l.slot l.initial.arena l.arena

abbrev pub invariant-loop-index : goal.invariant-loop-index
invariant-loop-index l = AreMarkedSoFar l
