use Rattle.std.proofs.Common.{◌≡◌, ◌<◌, ◌+◌, ℕ, length, Some, inl, inr, ap, ◌∙◌, arith, get_or-set_same}
use Rattle.std.specs.Prelude.{slice_get, slice_set, slice_index_or}
use Rattle.std.proofs.Math.ListN.{length-set}
use Rattle.std.proofs.lemmas.Bool.{cases_eq}
use Rattle.std.proofs.lemmas.List.{get_or-set_other}
use Rattle.std.proofs.lemmas.Option.{get_or_from_slice_get, slice_get_within, slice_get-get_or}
use Rattle.bm_arena.specs.HeldMaps.{id_at}
use Rattle.bm_round_scan.proofs.scanned_slots.read_numbers.Goals as goal
use Rattle.bm_round_scan.proofs.scanned_slots.read_numbers.Goals.{After-index-numbers-index}

read_on : (c : After-index-numbers-index) → (i : ℕ) → i < c.loop-index.index + 1 → (slot : ℕ) → slice_get c.args.chunk.now i ≡ Some slot
    → slice_index_or (slice_set c.loop-index.numbers c.loop-index.index c.number_of.result) i 0 ≡ id_at c.args.arena.now slot
read_on c i below slot is =
    elim (cases_eq i c.loop-index.index) [
      | inl here ↦
          let in_bounds : c.loop-index.index < length c.loop-index.numbers = omega (arith, c.loop-index.invariant.whole) in
          let same : slice_index_or c.args.chunk.now c.loop-index.index 0 ≡ slot = get_or_from_slice_get c.args.chunk.now c.loop-index.index slot 0 (rw here at is) in
          rw here (get_or-set_same c.loop-index.numbers c.loop-index.index c.number_of.result 0 in_bounds ∙ c.number_of.ensures ∙ ap (id_at c.args.arena.now) same)
      | inr differs ↦
          let less : i < c.loop-index.index = omega arith in
          get_or-set_other c.loop-index.numbers c.loop-index.index i c.number_of.result 0 differs ∙ c.loop-index.invariant.read i less slot is
    ]

pub loop-index-preserved : goal.loop-index-preserved
loop-index-preserved c = record {
  whole = length-set c.loop-index.numbers c.loop-index.index c.number_of.result ∙ c.loop-index.invariant.whole;
  read = read_on c;
}

pub returns : goal.returns
returns c i slot is =
    let low = slice_get_within c.args.chunk.now i slot is in
    slice_get-get_or c.loop-index.numbers i 0 (omega (arith, low, c.requires, c.loop-index.invariant.whole)) ∙ ap Some (c.loop-index.invariant.read i (omega arith) slot is)
