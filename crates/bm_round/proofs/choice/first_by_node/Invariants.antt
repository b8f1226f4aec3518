use Rattle.std.proofs.Common.{◌≡◌, map, take}
use Rattle.bm_base.specs.Maps.Map.{keys}
use Rattle.bm_round.specs.RoundCommands.{first_commands}
use Rattle.bm_round.specs.NodeIndex.{IsLookedUp}
use Rattle.bm_round.proofs.choice.first_by_node.Given as goal

abbrev pub invariant-loop-delete : goal.invariant-loop-delete
invariant-loop-delete l = record {
  ids : l.groups.ids.items ≡ keys l.topology.cluster.nodes;
  nodes : l.groups.nodes.items ≡ map (first_commands l.most l.topology.cluster (take l.delete-index l.deletes)) (keys l.topology.cluster.nodes);
  last : IsLookedUp l.topology.cluster l.groups.ids.items l.groups.last;
}
