use Rattle.std.proofs.Common.{map, take}
use Rattle.fsck_import.specs.CallsFor.{corrupt}
use Rattle.cluster_report.specs.Sessions.{IsInStep}
use Rattle.cluster_input.specs.MadeCalls.{Makes}
use Rattle.cluster_input.proofs.calls.make_corrupt.Given as goal

-- the calls so far
abbrev pub invariant-loop-bad : goal.invariant-loop-bad
invariant-loop-bad g l = record {
  made : Makes (map corrupt (take l.bad-index l.cluster.bad)) l.fn.session.manager l.session.manager;
  in_step : IsInStep l.session;
}
