use Rattle.std.proofs.Common.{arith}
use Rattle.fsck_import.specs.CallsFor.{heartbeat}
use Rattle.cluster_input.proofs.MakeLemmas.{called_at}
use Rattle.cluster_input.proofs.calls.make_heartbeats.Goals as goal

pub loop-node-preserved : goal.loop-node-preserved
loop-node-preserved g c = record {
  made = called_at (heartbeat c.args.cluster.now.rows c.args.remaining) c.args.cluster.now.node_rows c.as_slice-node-items.result.now
      c.loop-node.node-index _ _ _ _ _ c.as_slice-node-items.ensures (omega (arith, c.loop-node-test.true))
      c.in_ok-call.ensures c.loop-node.invariant.made c.in_ok-make_call.ensures.made;
  in_step = c.in_ok-make_call.ensures.in_step;
}
