use Rattle.std.proofs.Common.{◌≡◌, ℕ, ◌<◌, Some, length}
use Rattle.std.specs.Prelude.{slice_get, slice_index_or}
use Rattle.std.specs.Option.{option_map_or}
use Rattle.bm_arena.specs.Contents.{block_at}
use Rattle.bm_arena.specs.Triplets.{Block}
use Rattle.bm_levels.proofs.classified_chunks.read_counts_ahead.Given as goal

-- the number of replicas of each block whose entry was read
abbrev pub invariant-loop-index : goal.invariant-loop-index
invariant-loop-index l =
    record {
      whole : length l.counts ≡ 64;
      read : (i : ℕ) → i < l.index → (slot : ℕ) → slice_get l.chunk i ≡ Some slot
          → slice_index_or l.counts i 0 ≡ option_map_or (λ (b : Block). length b.replicas) (block_at l.arena slot) 0;
    }
