use Rattle.std.proofs.Common.{arith, ap, sym, ◌∙◌}
use Rattle.bm_base.specs.Maps.Map.{len}
use Rattle.bm_topo.proofs.RackChanges.{len-remove_there, remove_absent}
use Rattle.bm_topo.proofs.topology.Topology.others.Goals as goal

pub overflow_sub-result : goal.overflow_sub-result
overflow_sub-result c =
    let there = len-remove_there c.args.self.now.cluster.nodes c.args.node c.in-Some.field-0 (sym c.rack_of_node.ensures ∙ c.in-Some.is) in
    omega (arith, there, c.alive_nodes-nodes.ensures.count)

pub returns-in-Some : goal.returns-in-Some
returns-in-Some c =
    let there = len-remove_there c.args.self.now.cluster.nodes c.args.node c.in-Some.field-0 (sym c.rack_of_node.ensures ∙ c.in-Some.is) in
    omega (arith, there, c.alive_nodes-nodes.ensures.count)

pub returns-in-None : goal.returns-in-None
returns-in-None c = c.alive_nodes-nodes.ensures.count ∙ ap len (sym (remove_absent c.args.self.now.cluster.nodes c.args.node (sym c.rack_of_node.ensures ∙ c.in-None.is)))
