use Rattle.std.proofs.Common.{map, take}
use Rattle.fsck_import.specs.CallsFor.{add}
use Rattle.cluster_report.specs.Sessions.{IsInStep}
use Rattle.cluster_input.specs.MadeCalls.{Makes}
use Rattle.cluster_input.proofs.calls.make_adds.Given as goal

-- the calls so far
abbrev pub invariant-loop-index : goal.invariant-loop-index
invariant-loop-index g l = record {
  made : Makes (map add (take l.index l.cluster.blocks)) l.fn.session.manager l.session.manager;
  in_step : IsInStep l.session;
}
