use Rattle.std.proofs.Common.{map, take}
use Rattle.fsck_import.specs.CallsFor.{received}
use Rattle.cluster_report.specs.Sessions.{IsInStep}
use Rattle.cluster_input.specs.MadeCalls.{Makes}
use Rattle.cluster_input.proofs.calls.make_received.Given as goal

-- the calls so far
abbrev pub invariant-loop-one : goal.invariant-loop-one
invariant-loop-one g l = record {
  made : Makes (map (received l.storage) (take l.one-index l.held)) l.fn.session.manager l.session.manager;
  in_step : IsInStep l.session;
}
