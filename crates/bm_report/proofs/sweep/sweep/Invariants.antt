use Rattle.std.proofs.Common.{◌≡◌, ◌+◌, ◌≤◌, ◌++◌, length, vec_len}
use Rattle.std.specs.Prelude.{vec_capacity}
use Rattle.bm_report.specs.DuringReport.{behind}
use Rattle.bm_report.proofs.SweptSlots.{IsSweeping}
use Rattle.bm_report.proofs.sweep.sweep.Given as goal

abbrev pub decreases-loop-slot : goal.decreases-loop-slot
decreases-loop-slot l = length (behind l.arena l.storage)

abbrev pub invariant-loop-slot : goal.invariant-loop-slot
invariant-loop-slot l =
    record {
      sweeping : IsSweeping l.storage l.initial.arena l.arena l.initial.tally l.tally l.initial.changed.items l.changed.items;
      appended : l.changed.items ++ behind l.arena l.storage ≡ l.initial.changed.items ++ behind l.initial.arena l.storage;
      space : vec_len l.changed + length (behind l.arena l.storage) ≤ vec_capacity l.changed;
      capacity : vec_capacity l.changed ≡ vec_capacity l.initial.changed;
    }
