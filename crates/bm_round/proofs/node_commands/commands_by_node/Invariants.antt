use Rattle.std.proofs.Common.{◌≡◌, [], map, take}
use Rattle.bm_base.specs.Words.{keys, node_commands}
use Rattle.bm_round.specs.NodeIndex.{IsLookedUp}
use Rattle.bm_round.proofs.node_commands.commands_by_node.Given as goal

abbrev pub invariant-loop-transfer : goal.invariant-loop-transfer
invariant-loop-transfer l = record {
  ids : l.groups.ids.items ≡ keys l.topology.cluster.nodes;
  nodes : l.groups.nodes.items ≡ map (node_commands l.topology.cluster (take l.transfer-index l.transfers) []) (keys l.topology.cluster.nodes);
  last : IsLookedUp l.topology.cluster l.groups.ids.items l.groups.last;
}

abbrev pub invariant-loop-delete : goal.invariant-loop-delete
invariant-loop-delete l = record {
  ids : l.groups.ids.items ≡ keys l.topology.cluster.nodes;
  nodes : l.groups.nodes.items ≡ map (node_commands l.topology.cluster l.transfers (take l.delete-index l.deletes)) (keys l.topology.cluster.nodes);
  last : IsLookedUp l.topology.cluster l.groups.ids.items l.groups.last;
}
