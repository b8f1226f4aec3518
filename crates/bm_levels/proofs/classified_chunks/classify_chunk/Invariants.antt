use Rattle.std.proofs.Common.{◌≡◌, ◌<◌, ℕ, Some, length}
use Rattle.std.specs.Prelude.{slice_get, slice_index_or}
use Rattle.bm_arena.specs.Contents.{block_at}
use Rattle.bm_levels.specs.declared.classification.BlockStatus.{BlockStatus}
use Rattle.bm_levels.specs.ClusterAfter.{IsStatusAfter}
use Rattle.bm_levels.proofs.classified_chunks.classify_chunk.Given as goal

-- the status of each block that was scanned
abbrev pub invariant-loop-index : goal.invariant-loop-index
invariant-loop-index l =
    record {
      whole : length l.status ≡ 64;
      read : (i : ℕ) → i < l.index → (slot : ℕ) (default : BlockStatus) → slice_get l.chunk i ≡ Some slot
          → IsStatusAfter l.cluster_after (block_at l.arena slot) (slice_index_or l.status i default);
    }
