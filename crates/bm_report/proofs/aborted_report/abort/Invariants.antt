use Rattle.bm_report.specs.AbortedReport.{IsDropped}
use Rattle.bm_report.proofs.Aborts.{is_below}
use Rattle.bm_report.proofs.aborted_report.abort.Given as goal

abbrev pub invariant-loop-slot : goal.invariant-loop-slot
invariant-loop-slot l = IsDropped (is_below l.initial.arena l.slot) l.initial.arena l.arena
