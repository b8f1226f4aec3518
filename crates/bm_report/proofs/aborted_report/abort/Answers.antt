use Rattle.std.proofs.Common.{true, arith}
use Rattle.bm_report.specs.AbortedReport.{IsDropped}
use Rattle.bm_report.proofs.Aborts.{dropped-none, dropped-next, dropped-all}
use Rattle.bm_report.proofs.aborted_report.abort.Goals as goal

pub loop-slot-init : goal.loop-slot-init
loop-slot-init c = dropped-none c.args.arena.now

pub loop-slot-preserved : goal.loop-slot-preserved
loop-slot-preserved c = dropped-next c.args.arena.now c.loop-slot.arena c.abort_slot.new.arena c.loop-slot.slot c.loop-slot.invariant c.abort_slot.ensures

whole : (c : goal.After-loop-slot) → IsDropped (λ k. true) c.args.arena.now c.loop-slot.arena
whole c = dropped-all c.args.arena.now c.loop-slot.arena c.loop-slot.slot c.show_invariant.ensures (omega (arith, c.slot_bound-slot-end.ensures.bound, c.loop-slot-test.false)) c.loop-slot.invariant

pub returns-clause-numbers : goal.returns-clause-numbers
returns-clause-numbers c = (whole c).numbers
