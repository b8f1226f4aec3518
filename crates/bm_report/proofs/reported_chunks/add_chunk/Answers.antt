use Rattle.std.proofs.Common.{suc, length, drop, ◌∷◌, [], refl, subst, ◌∙◌, arith, add-one}
use Rattle.std.proofs.Common.{ℕ, map, inl, inr, sym}
use Rattle.std.proofs.lemmas.Option.{slice_get_read}
use Rattle.std.proofs.lemmas.Bool.{or_parts}
use Rattle.bm_maps.specs.SlotLists.{IsMember}
use Rattle.bm_report.specs.DuringReport.{slot_in}
use Rattle.bm_report.proofs.ListedSlots.{slot-listed}
use Rattle.bm_report.proofs.AlreadyThere.{already_same, one_of}
use Rattle.bm_report.proofs.PartialReport.{IsUnderway, listed-chain, listed-none, underway-first, underway-at, underway-next, underway-last, drop_all}
use Rattle.bm_report.proofs.reported_chunks.add_chunk.Goals as goal

underway_here : (c : goal.After-add_and_list-now_changed)
    → IsUnderway c.args.topology.now.cluster c.args.storage c.args.chunk.now (c.index-chunk-index.result ∷ drop (suc c.loop-index.index) c.args.chunk.now) c.args.arena.now c.loop-index.arena c.args.tally.now c.loop-index.tally
underway_here c = underway-at c.args.topology.now.cluster c.args.storage c.args.chunk.now c.loop-index.index c.index-chunk-index.result c.args.arena.now c.loop-index.arena c.args.tally.now c.loop-index.tally c.loop-index-test.true c.index-chunk-index.is c.loop-index.invariant.underway

pub loop-index-init : goal.loop-index-init
loop-index-init c = record {
  underway = underway-first c.args.topology.now.cluster c.args.storage c.args.chunk.now c.args.arena.now c.args.tally.now c.requires.here c.requires.capacity c.requires.once c.requires.head c.requires.small;
  no_change = λ _. (refl, refl);
  listed = listed-none c.args.arena.now c.args.changed.now.items;
  same = λ _. refl;
  space = omega (arith);
  came = λ slot m. inl m;
  capacity = refl;
}

pub add_and_list-now_changed-requires : goal.add_and_list-now_changed-requires
add_and_list-now_changed-requires c =
    let next = underway-at c.args.topology.now.cluster c.args.storage c.args.chunk.now c.loop-index.index c.index-chunk-index.result c.args.arena.now c.loop-index.arena c.args.tally.now c.loop-index.tally c.loop-index-test.true c.index-chunk-index.is c.loop-index.invariant.underway in
    record {
      here = next.here.0;
      was = c.marks_now-was.ensures;
      head = next.head;
      capacity = next.capacity.0;
      once = next.once;
      small = record { added = omega (arith, next.small.added); removed = omega (arith, next.small.removed); steps = omega (arith, next.small.steps) };
      space = omega (arith, c.loop-index-test.true, c.loop-index.invariant.space, c.loop-index.invariant.capacity, c.requires.space);
    }

pub loop-index-preserved : goal.loop-index-preserved
loop-index-preserved c = record {
  underway =
      rw add-one
      (underway-next c.args.topology.now.cluster c.args.storage c.args.chunk.now (c.index-chunk-index.result ∷ []) (drop (suc c.loop-index.index) c.args.chunk.now) c.args.arena.now c.loop-index.arena
      c.add_and_list-now_changed.new.arena c.args.tally.now c.loop-index.tally c.add_and_list-now_changed.new.tally
      (underway_here c) c.add_and_list-now_changed.ensures.entered c.add_and_list-now_changed.ensures.counted);
  same = λ e.
      let both = or_parts c.loop-index.is_changed c.add_and_list-now_changed.result e in
      c.add_and_list-now_changed.ensures.same both.1 ∙ c.loop-index.invariant.same both.0;
  space = omega (arith, c.add_and_list-now_changed.ensures.grown, c.loop-index.invariant.space);
  no_change = λ all.
      let so_far = c.loop-index.invariant.no_change all in
      let at = slice_get_read c.args.chunk.now (length c.args.chunk.now) c.loop-index.index c.index-chunk-index.result refl c.loop-index-test.true c.index-chunk-index.is in
      let was_there = already_same c.args.arena.now c.loop-index.arena c.args.storage c.index-chunk-index.result so_far.0 (one_of c.args.arena.now c.args.storage c.args.chunk.now c.loop-index.index c.index-chunk-index.result at all) in
      let q = c.add_and_list-now_changed.ensures.no_change was_there in
      (c.add_and_list-now_changed.ensures.same q.0 ∙ so_far.0, q.1 ∙ so_far.1);
  listed = listed-chain c.args.arena.now c.loop-index.arena c.add_and_list-now_changed.new.arena c.args.changed.now.items c.loop-index.changed.items c.add_and_list-now_changed.new.changed.items c.loop-index.invariant.listed c.add_and_list-now_changed.ensures.listed;
  came = λ slot m.
      let at = slice_get_read c.args.chunk.now (length c.args.chunk.now) c.loop-index.index c.index-chunk-index.result refl c.loop-index-test.true c.index-chunk-index.is in
      let P : ℕ → Type 0 = λ k. IsMember k (map slot_in c.args.chunk.now) in
      elim (c.add_and_list-now_changed.ensures.came slot m) [
        | inl was ↦ c.loop-index.invariant.came slot was
        | inr same ↦ inr (subst P (sym same) (slot-listed c.args.chunk.now c.loop-index.index c.index-chunk-index.result at))
      ];
  capacity = c.add_and_list-now_changed.ensures.capacity ∙ c.loop-index.invariant.capacity;
}

pub returns-clause-entered : goal.returns-clause-entered
returns-clause-entered c =
    (underway-last c.args.topology.now.cluster c.args.storage c.args.chunk.now (drop c.loop-index.index c.args.chunk.now) c.args.arena.now c.loop-index.arena c.args.tally.now c.loop-index.tally
    (drop_all c.args.chunk.now c.loop-index.index c.loop-index-test.false) c.loop-index.invariant.underway).0

pub returns-clause-counted : goal.returns-clause-counted
returns-clause-counted c =
    (underway-last c.args.topology.now.cluster c.args.storage c.args.chunk.now (drop c.loop-index.index c.args.chunk.now) c.args.arena.now c.loop-index.arena c.args.tally.now c.loop-index.tally
    (drop_all c.args.chunk.now c.loop-index.index c.loop-index-test.false) c.loop-index.invariant.underway).1
