use Rattle.std.proofs.Common.{◌≡◌, ◌<◌, ℕ, length, Some, None, inl, inr, ap, ◌∙◌, arith, get_or-set_same}
use Rattle.std.specs.Prelude.{slice_get, slice_set, slice_index_or}
use Rattle.std.proofs.Math.ListN.{length-set}
use Rattle.std.proofs.Common.{◌+◌}
use Rattle.std.proofs.lemmas.Bool.{cases_eq}
use Rattle.std.proofs.lemmas.List.{get_or-set_other}
use Rattle.std.proofs.lemmas.Option.{get_or_from_slice_get, slice_get_within}
use Rattle.bm_arena.specs.Contents.{marks_at}
use Rattle.bm_report.specs.declared.types.ReportedSlot.{ReportedSlot}
use Rattle.bm_report.proofs.reported_chunks.read_marks_ahead.Goals as goal

read_on : (c : goal.After-marks) → (i : ℕ) → i < c.loop-index.index + 1 → (n : ReportedSlot) → slice_get c.args.chunk.now i ≡ Some n
    → slice_index_or (slice_set c.loop-index.ahead c.loop-index.index c.marks.result) i None ≡ marks_at c.args.arena.now n.slot c.args.storage
read_on c i below n is =
    elim (cases_eq i c.loop-index.index) [
      | inl here ↦
          let in_bounds : c.loop-index.index < length c.loop-index.ahead = omega (arith, c.loop-index.invariant.whole) in
          let same : c.index-chunk-index.result ≡ n = c.index-chunk-index.is ∙ get_or_from_slice_get c.args.chunk.now c.loop-index.index n c.index-chunk-index.result (rw here at is) in
          rw here (get_or-set_same c.loop-index.ahead c.loop-index.index c.marks.result None in_bounds ∙ c.marks.ensures ∙ ap (λ (x : ReportedSlot). marks_at c.args.arena.now x.slot c.args.storage) same)
      | inr differs ↦
          let less : i < c.loop-index.index = omega arith in
          get_or-set_other c.loop-index.ahead c.loop-index.index i c.marks.result None differs ∙ c.loop-index.invariant.read i less n is
    ]

pub loop-index-preserved : goal.loop-index-preserved
loop-index-preserved c = record {
  whole = length-set c.loop-index.ahead c.loop-index.index c.marks.result ∙ c.loop-index.invariant.whole;
  read = read_on c;
}

pub returns : goal.returns
returns c i n is =
    let low = slice_get_within c.args.chunk.now i n is in
    c.loop-index.invariant.read i (omega arith) n is
