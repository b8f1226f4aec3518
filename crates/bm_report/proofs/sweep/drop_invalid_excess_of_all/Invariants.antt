use Rattle.std.proofs.Common.{drop}
use Rattle.bm_arena.specs.Contents.{Contents}
use Rattle.bm_report.specs.DuringReport.{AreAtSlots, DropsInvalidExcess}
use Rattle.bm_report.proofs.sweep.drop_invalid_excess_of_all.Given as goal

abbrev pub invariant-loop-named : goal.invariant-loop-named
invariant-loop-named l =
    record {
      here : AreAtSlots l.arena (drop l.named-index l.named);
      drops : (last : Contents) → DropsInvalidExcess l.storage (drop l.named-index l.named) l.arena last → DropsInvalidExcess l.storage l.named l.initial.arena last;
    }
