use Rattle.cluster_repair.specs.Reports.{heartbeat_of}
use Rattle.cluster_repair.proofs.Reach.{reported_more, reported_all}
use Rattle.cluster_repair.proofs.datanodes.report_free.Goals as goal

pub loop-node-preserved : goal.loop-node-preserved
loop-node-preserved g c bs =
    reported_more (heartbeat_of c.args.free.now) c.args.free.now.nodes.items c.loop-node.node-index c.node-item.result c.args.manager.now c.loop-node.manager c.report_free_on.new.manager bs bs bs
    (rw c.deref-node-items.ensures.value at c.loop-node-test.true) (rw c.deref-node-items.ensures.value at c.node-item.is) (c.loop-node.invariant bs) (c.in_ok-report_free_on.ensures bs)

pub returns : goal.returns
returns g c bs =
    reported_all (heartbeat_of c.args.free.now) c.args.free.now.nodes.items c.loop-node.node-index c.args.manager.now c.loop-node.manager bs bs
    (rw c.deref-node-items.ensures.value at c.loop-node-test.false) (c.loop-node.invariant bs)
