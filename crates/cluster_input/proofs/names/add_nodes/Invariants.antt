use Rattle.std.proofs.Common.{◌≡◌, fold, take}
use Rattle.cluster_input.specs.ClusterNames.{with_node}
use Rattle.cluster_input.proofs.names.add_nodes.Given as goal

abbrev pub invariant-loop-row : goal.invariant-loop-row
invariant-loop-row l = l.names ≡ fold (with_node l.cluster) l.fn.names (take l.row-index l.row-items)
