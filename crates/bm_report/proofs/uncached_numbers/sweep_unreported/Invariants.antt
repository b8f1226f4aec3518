use Rattle.std.proofs.Common.{ℕ, List, [], length}
use Rattle.bm_report.specs.DuringReport.{behind}
use Rattle.bm_report.proofs.SweptSlots.{IsSweeping}
use Rattle.bm_report.proofs.uncached_numbers.sweep_unreported.Given as goal

abbrev pub decreases-loop-slot : goal.decreases-loop-slot
decreases-loop-slot l = length (behind l.arena l.storage)

-- the removed slots are some list, which is not kept
abbrev pub invariant-loop-slot : goal.invariant-loop-slot
invariant-loop-slot l = (gone : List ℕ) × IsSweeping l.storage l.initial.arena l.arena l.initial.tally l.tally [] gone
