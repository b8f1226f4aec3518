use Rattle.std.proofs.Common.{◌≡◌, take, vec_capacity}
use Rattle.bm_base.specs.Maps.Map.{keys}
use Rattle.bm_topo.specs.ByNode.{node_in, AreByNode}
use Rattle.bm_topo.proofs.by_node.sort_by_node.Given as goal

-- those inserted so far are sorted, and no memory was taken
abbrev pub invariant-loop-number : goal.invariant-loop-number
invariant-loop-number l = record {
  sorted : AreByNode (node_in l.storages.map) (take l.number-index (keys l.storages.map)) l.sorted.items;
  no_growth : vec_capacity l.sorted ≡ vec_capacity l.initial.sorted;
}
