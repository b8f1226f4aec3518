use Rattle.std.proofs.Common.{map, take}
use Rattle.fsck_import.specs.CallsFor.{heartbeat}
use Rattle.cluster_report.specs.Sessions.{IsInStep}
use Rattle.cluster_input.specs.MadeCalls.{Makes}
use Rattle.cluster_input.proofs.calls.make_heartbeats.Given as goal

-- the calls so far
abbrev pub invariant-loop-node : goal.invariant-loop-node
invariant-loop-node g l = record {
  made : Makes (map (heartbeat l.cluster.rows l.remaining) (take l.node-index l.cluster.node_rows)) l.fn.session.manager l.session.manager;
  in_step : IsInStep l.session;
}
