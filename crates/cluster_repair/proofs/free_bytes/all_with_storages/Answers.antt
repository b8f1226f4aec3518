use Rattle.std.proofs.Common.{◌∙◌, ap}
use Rattle.cluster_repair.proofs.NumberLemmas.{nodes_more, nodes_all}
use Rattle.cluster_repair.proofs.free_bytes.all_with_storages.Goals as goal

pub loop-node-preserved : goal.loop-node-preserved
loop-node-preserved c =
    nodes_more c.args.topology.now.cluster c.deref-node-items.result.now c.loop-node.node-index c.node-item.result _ c.loop-node.nodes.items c.push.new.self.items
    c.loop-node-test.true c.node-item.is c.in_ok-push.ensures.items (ap (λ xs. (c.node-item.result, xs)) (c.in_ok-storages.ensures.items ∙ c.storages_of.ensures.storages)) c.loop-node.invariant

pub returns : goal.returns
returns c =
    nodes_all c.args.topology.now.cluster c.in_ok-all.all.items c.deref-node-items.result.now c.loop-node.node-index c.loop-node.nodes.items c.loop-node-test.false
    c.deref-node-items.ensures.value c.in_ok-all.ensures c.loop-node.invariant
