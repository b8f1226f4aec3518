use Rattle.std.proofs.Common.{map, take}
use Rattle.fsck_import.specs.CallsFor.{register}
use Rattle.cluster_report.specs.Sessions.{IsInStep}
use Rattle.cluster_input.specs.MadeCalls.{Makes}
use Rattle.cluster_input.proofs.calls.make_registers.Given as goal

-- the calls so far
abbrev pub invariant-loop-node : goal.invariant-loop-node
invariant-loop-node g l = record {
  made : Makes (map (register l.cluster.rows) (take l.node-index l.cluster.node_rows)) l.fn.session.manager l.session.manager;
  in_step : IsInStep l.session;
}
