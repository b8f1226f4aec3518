use Rattle.std.proofs.Common.{◌≡◌, ◌<◌, ◌+◌, ℕ, length, Some, inl, inr, ap, ◌∙◌, arith, get_or-set_same}
use Rattle.std.specs.Prelude.{slice_get, slice_set, slice_index_or}
use Rattle.std.specs.Option.{option_map_or}
use Rattle.std.proofs.Math.ListN.{length-set}
use Rattle.std.proofs.lemmas.Bool.{cases_eq}
use Rattle.std.proofs.lemmas.List.{get_or-set_other}
use Rattle.std.proofs.lemmas.Option.{get_or_from_slice_get, slice_get_within}
use Rattle.bm_arena.specs.Contents.{block_at}
use Rattle.bm_arena.specs.Triplets.{Block}
use Rattle.bm_levels.proofs.classified_chunks.read_counts_ahead.Goals as goal

read_on : (c : goal.After-triplet_count) → (i : ℕ) → i < c.loop-index.index + 1 → (slot : ℕ) → slice_get c.args.chunk.now i ≡ Some slot
    → slice_index_or (slice_set c.loop-index.counts c.loop-index.index c.triplet_count.result) i 0 ≡ option_map_or (λ (b : Block). length b.replicas) (block_at c.args.arena.now slot) 0
read_on c i below slot is =
    elim (cases_eq i c.loop-index.index) [
      | inl here ↦
          let in_bounds : c.loop-index.index < length c.loop-index.counts = omega (arith, c.loop-index.invariant.whole) in
          let same : slice_index_or c.args.chunk.now c.loop-index.index 0 ≡ slot = get_or_from_slice_get c.args.chunk.now c.loop-index.index slot 0 (rw here at is) in
          rw here (get_or-set_same c.loop-index.counts c.loop-index.index c.triplet_count.result 0 in_bounds ∙ c.triplet_count.ensures ∙ ap (λ z. option_map_or (λ (b : Block). length b.replicas) (block_at c.args.arena.now z) 0) same)
      | inr differs ↦
          let less : i < c.loop-index.index = omega arith in
          get_or-set_other c.loop-index.counts c.loop-index.index i c.triplet_count.result 0 differs ∙ c.loop-index.invariant.read i less slot is
    ]

pub loop-index-preserved : goal.loop-index-preserved
loop-index-preserved c = record {
  whole = length-set c.loop-index.counts c.loop-index.index c.triplet_count.result ∙ c.loop-index.invariant.whole;
  read = read_on c;
}

pub returns : goal.returns
returns c i slot is =
    let low = slice_get_within c.args.chunk.now i slot is in
    c.loop-index.invariant.read i (omega arith) slot is
