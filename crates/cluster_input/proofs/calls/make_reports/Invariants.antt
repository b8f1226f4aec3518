use Rattle.std.proofs.Common.{take}
use Rattle.std.specs.List.{flat_map}
use Rattle.fsck_import.specs.CallsFor.{reports}
use Rattle.cluster_report.specs.Sessions.{IsInStep}
use Rattle.cluster_input.specs.MadeCalls.{Makes}
use Rattle.cluster_input.proofs.calls.make_reports.Given as goal

-- the calls so far
abbrev pub invariant-loop-row : goal.invariant-loop-row
invariant-loop-row g l = record {
  made : Makes (flat_map reports (take l.row-index l.cluster.rows)) l.fn.session.manager l.session.manager;
  in_step : IsInStep l.session;
}
