use Rattle.std.proofs.Common.{◌++◌, ◌∷◌, [], length, refl, sym, ap, ◌∙◌, arith}
use Rattle.bm_report.proofs.SweptSlots.{next-there, whole-behind, sweeping-first, sweeping-next, sweeping-last}
use Rattle.bm_report.proofs.uncached_numbers.sweep_unreported.Goals as goal

pub loop-slot-init : goal.loop-slot-init
loop-slot-init c = ([], sweeping-first c.args.storage c.args.arena.now c.args.tally.now [] c.requires.put c.requires.removed c.requires.steps)

pub unlink-requires : goal.unlink-requires
unlink-requires c = next-there c.args.storage c.in-Some.slot c.loop-slot.arena c.show_invariant.ensures (sym c.in-Some.ensures)

pub loop-slot-smaller : goal.loop-slot-smaller
loop-slot-smaller c =
    let count =
    ap length (whole-behind c.args.storage c.in-Some.slot c.loop-slot.arena c.unlink.new.self c.show_invariant.ensures (sym c.in-Some.ensures) c.unlink.ensures.others c.unlink.ensures.marks c.unlink.ensures.list) in
    omega (arith, count)

pub loop-slot-preserved : goal.loop-slot-preserved
loop-slot-preserved c = (
  c.loop-slot.invariant.0 ++ c.in-Some.slot ∷ [],
  sweeping-next c.args.storage c.in-Some.slot c.loop-slot.arena c.unlink.new.self c.show_invariant.ensures (sym c.in-Some.ensures) c.unlink.ensures.others c.unlink.ensures.marks c.unlink.ensures.list
      c.args.arena.now c.args.tally.now c.loop-slot.tally c.count_sweep.new.self [] c.loop-slot.invariant.0 (c.loop-slot.invariant.0 ++ c.in-Some.slot ∷ []) c.loop-slot.invariant.1 c.count_sweep.ensures refl,
)

pub returns : goal.returns
returns c =
    sweeping-last c.args.storage c.args.arena.now c.loop-slot.arena c.args.tally.now c.loop-slot.tally [] c.loop-slot.invariant.0 (sym c.next_after.ensures ∙ c.in_default.is) c.loop-slot.invariant.1
