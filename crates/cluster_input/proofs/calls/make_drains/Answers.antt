use Rattle.std.proofs.Common.{arith}
use Rattle.fsck_import.specs.CallsFor.{drain, drains}
use Rattle.cluster_input.proofs.MakeLemmas.{status_at}
use Rattle.cluster_input.proofs.calls.make_drains.Goals as goal

pub loop-node-preserved : goal.loop-node-preserved
loop-node-preserved g c = record {
  made = status_at drain (drains c.args.cluster.now) c.args.cluster.now.node_rows c.as_slice-node-items.result.now c.loop-node.node-index _
      _ _ _ c.as_slice-node-items.ensures (omega (arith, c.loop-node-test.true)) c.loop-node.invariant.made
      c.in_ok-make_drain.ensures.made;
  in_step = c.in_ok-make_drain.ensures.in_step;
}
