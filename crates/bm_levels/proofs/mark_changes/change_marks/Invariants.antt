use Rattle.std.proofs.Common.{◌≡◌, false}
use Rattle.bm_arena.specs.Contents.{block_at, known_of, KeepsAllBut}
use Rattle.bm_arena.specs.HeldMaps.{replicas_at}
use Rattle.bm_levels.specs.Changes.{changed}
use Rattle.bm_levels.proofs.AllMarks.{changed_first}
use Rattle.bm_levels.proofs.mark_changes.change_marks.Given as goal

-- the replicas before this index have their new marks, and nothing else changed
pub record AreChangedSoFar (l : goal.Live-loop-index) : Type 0 where
  pub replicas : replicas_at l.arena l.slot ≡ changed_first (λ s m. changed l.change m) l.index (replicas_at l.initial.arena l.slot)
  pub known : known_of (block_at l.arena l.slot) ≡ known_of (block_at l.initial.arena l.slot)
  pub rest : KeepsAllBut l.slot l.initial.arena l.arena
  pub same : l.is_changed ≡ false → l.arena ≡ l.initial.arena

abbrev pub invariant-loop-index : goal.invariant-loop-index
invariant-loop-index l = AreChangedSoFar l
