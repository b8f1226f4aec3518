use Rattle.std.proofs.Common.{◌≡◌, ℕ, ◌<◌, Some, None, length}
use Rattle.std.specs.Prelude.{slice_get, slice_index_or}
use Rattle.bm_arena.specs.Contents.{marks_at}
use Rattle.bm_report.specs.declared.types.ReportedSlot.{ReportedSlot}
use Rattle.bm_report.proofs.reported_chunks.read_marks_ahead.Given as goal

-- the marks of the blocks that were read
abbrev pub invariant-loop-index : goal.invariant-loop-index
invariant-loop-index l =
    record {
      whole : length l.ahead ≡ 64;
      read : (i : ℕ) → i < l.index → (n : ReportedSlot) → slice_get l.chunk i ≡ Some n → slice_index_or l.ahead i None ≡ marks_at l.arena n.slot l.storage;
    }
