use Rattle.std.proofs.Common.{◌++◌, ℕ, length, length-append, map, List, inl, inr, subst, sym, ap, ◌∙◌, arith}
use Rattle.std.specs.Slice.Iter.{chunks_rest}
use Rattle.std.proofs.lemmas.List.{nil_from_length}
use Rattle.bm_report.specs.declared.types.ReportedSlot.{ReportedSlot}
use Rattle.bm_maps.specs.SlotLists.{IsMember}
use Rattle.bm_report.specs.DuringReport.{AllAlreadyThere, slot_in}
use Rattle.bm_report.proofs.ListedSlots.{slots-front, slots-back}
use Rattle.bm_report.proofs.AlreadyThere.{all_same, front_of, back_of}
use Rattle.bm_report.proofs.PartialReport.{IsUnderway, listed-chain, underway-next, underway-last, here-part, capacity-part}
use Rattle.bm_report.proofs.reported_chunks.add_all_reported.Goals as goal

split : (c : goal.After-add_chunk-arg-in-loop-chunk-2-1)
    → IsUnderway c.args.topology.now.cluster c.args.storage c.args.named.now (c.in-Some.chunk.now ++ chunks_rest c.next.new.self) c.args.arena.now c.loop-chunk.arena c.args.tally.now c.loop-chunk.tally
split c =
    let P : List ReportedSlot → Type 0 = λ rest. IsUnderway c.args.topology.now.cluster c.args.storage c.args.named.now rest c.args.arena.now c.loop-chunk.arena c.args.tally.now c.loop-chunk.tally in
    subst P c.in-Some.ensures.steps.1.0 c.loop-chunk.invariant.underway

pub add_chunk-requires-clause-here : goal.add_chunk-requires-clause-here
add_chunk-requires-clause-here c = here-part c.loop-chunk.arena c.in-Some.chunk.now (chunks_rest c.next.new.self) (split c).here

pub add_chunk-requires-clause-capacity : goal.add_chunk-requires-clause-capacity
add_chunk-requires-clause-capacity c = capacity-part c.loop-chunk.arena c.args.storage c.in-Some.chunk.now (chunks_rest c.next.new.self) (split c).capacity

in_all : (c : goal.After-add_chunk) → (slot : ℕ) → IsMember slot (map slot_in (c.in-Some.chunk.now ++ chunks_rest c.next.new.self)) → IsMember slot (map slot_in c.args.named.now)
in_all c slot m = let P : List ReportedSlot → Type 0 = λ l. IsMember slot (map slot_in l) in c.loop-chunk.invariant.rest slot (subst P (sym c.in-Some.ensures.steps.1.0) m)

pub loop-chunk-preserved : goal.loop-chunk-preserved
loop-chunk-preserved c =
    let chunk = c.in-Some.chunk.now in
    let rest = chunks_rest c.next.new.self in
    let whole = c.in-Some.ensures.steps.1.0 in
    let long = ap length whole ∙ length-append chunk rest in
    record {
      finite = tt;
      size = c.in-Some.ensures.steps.0 ∙ c.loop-chunk.invariant.size;
      underway =
          underway-next c.args.topology.now.cluster c.args.storage c.args.named.now chunk rest c.args.arena.now c.loop-chunk.arena c.add_chunk.new.arena c.args.tally.now c.loop-chunk.tally c.add_chunk.new.tally
          (split c.before) c.add_chunk.ensures.entered c.add_chunk.ensures.counted;
      space = omega (arith, c.add_chunk.ensures.grown, c.loop-chunk.invariant.space, long);
      no_change = λ all.
          let so_far = c.loop-chunk.invariant.no_change all in
          let P : List ReportedSlot → Type 0 = λ l. AllAlreadyThere c.args.arena.now c.args.storage l in
          let both = subst P whole so_far.2 in
          let q = c.add_chunk.ensures.no_change (all_same c.args.arena.now c.loop-chunk.arena c.args.storage chunk so_far.0 (front_of c.args.arena.now c.args.storage chunk rest both)) in
          (q.0 ∙ so_far.0, q.1 ∙ so_far.1, back_of c.args.arena.now c.args.storage chunk rest both);
      listed = listed-chain c.args.arena.now c.loop-chunk.arena c.add_chunk.new.arena c.args.changed.now.items c.loop-chunk.changed.items c.add_chunk.new.changed.items c.loop-chunk.invariant.listed c.add_chunk.ensures.listed;
      came = λ slot m.
          elim (c.add_chunk.ensures.came slot m) [
            | inl was ↦ c.loop-chunk.invariant.came slot was
            | inr here ↦ inr (in_all c slot (slots-front chunk rest slot here))
          ];
      rest = λ slot m. in_all c slot (slots-back chunk rest slot m);
      capacity = c.add_chunk.ensures.capacity ∙ c.loop-chunk.invariant.capacity;
    }

pub returns-clause-entered : goal.returns-clause-entered
returns-clause-entered c =
    (underway-last c.args.topology.now.cluster c.args.storage c.args.named.now _ c.args.arena.now c.loop-chunk.arena c.args.tally.now c.loop-chunk.tally (nil_from_length _ c.in-None.ensures.steps.1.0) c.loop-chunk.invariant.underway).0

pub returns-clause-counted : goal.returns-clause-counted
returns-clause-counted c =
    (underway-last c.args.topology.now.cluster c.args.storage c.args.named.now _ c.args.arena.now c.loop-chunk.arena c.args.tally.now c.loop-chunk.tally (nil_from_length _ c.in-None.ensures.steps.1.0) c.loop-chunk.invariant.underway).1
