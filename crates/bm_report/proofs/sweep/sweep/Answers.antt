use Rattle.std.proofs.Common.{◌≡◌, ◌++◌, ◌∷◌, [], length, sym, ap, ◌∙◌, arith}
use Rattle.std.proofs.lemmas.List.{append_assoc, append-nil}
use Rattle.bm_report.specs.DuringReport.{behind}
use Rattle.bm_report.proofs.SweptSlots.{next-there, whole-behind, nothing-behind, sweeping-next, sweeping-last}
use Rattle.bm_report.proofs.sweep.sweep.Goals as goal

pub unlink-requires : goal.unlink-requires
unlink-requires c = next-there c.args.storage c.in-Some.slot c.loop-slot.arena c.show_invariant.ensures (sym c.in-Some.ensures)

one_more : (c : goal.After-push_reserved-arg-1) → behind c.loop-slot.arena c.args.storage ≡ c.in-Some.slot ∷ behind c.unlink.new.self c.args.storage
one_more c =
    whole-behind c.args.storage c.in-Some.slot c.loop-slot.arena c.unlink.new.self c.show_invariant.ensures (sym c.in-Some.ensures) c.unlink.ensures.others c.unlink.ensures.marks c.unlink.ensures.list

pub push_reserved-requires : goal.push_reserved-requires
push_reserved-requires c = let count = ap length (one_more c) in omega (arith, count, c.loop-slot.invariant.space)

pub loop-slot-smaller : goal.loop-slot-smaller
loop-slot-smaller c = let count = ap length (one_more c.before) in omega (arith, count)

pub loop-slot-preserved : goal.loop-slot-preserved
loop-slot-preserved c =
    let count = ap length (one_more c.before) in
    record {
      sweeping =
          sweeping-next c.args.storage c.in-Some.slot c.loop-slot.arena c.unlink.new.self c.show_invariant.ensures (sym c.in-Some.ensures) c.unlink.ensures.others c.unlink.ensures.marks c.unlink.ensures.list
          c.args.arena.now c.args.tally.now c.loop-slot.tally c.count_sweep.new.self c.args.changed.now.items c.loop-slot.changed.items c.push_reserved.new.self.items
          c.loop-slot.invariant.sweeping c.count_sweep.ensures c.push_reserved.ensures.items;
      appended =
          ap (λ l. l ++ behind c.unlink.new.self c.args.storage) c.push_reserved.ensures.items
          ∙ append_assoc c.loop-slot.changed.items (c.in-Some.slot ∷ []) (behind c.unlink.new.self c.args.storage)
          ∙ ap (λ l. c.loop-slot.changed.items ++ l) (sym (one_more c.before)) ∙ c.loop-slot.invariant.appended;
      space = omega (arith, count, c.loop-slot.invariant.space, c.push_reserved.ensures.len, c.push_reserved.ensures.capacity);
      capacity = c.push_reserved.ensures.capacity ∙ c.loop-slot.invariant.capacity;
    }

pub returns-clause-swept : goal.returns-clause-swept
returns-clause-swept c =
    sweeping-last c.args.storage c.args.arena.now c.loop-slot.arena c.args.tally.now c.loop-slot.tally c.args.changed.now.items c.loop-slot.changed.items
    (sym c.next_after.ensures ∙ c.in_default.is) c.loop-slot.invariant.sweeping

pub returns-clause-appended : goal.returns-clause-appended
returns-clause-appended c =
    let empty = nothing-behind c.args.storage c.loop-slot.arena (sym c.next_after.ensures ∙ c.in_default.is) in
    sym (ap (λ l. c.loop-slot.changed.items ++ l) empty ∙ append-nil c.loop-slot.changed.items) ∙ c.loop-slot.invariant.appended
