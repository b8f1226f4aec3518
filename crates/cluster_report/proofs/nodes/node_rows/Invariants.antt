use Rattle.std.proofs.Common.{◌≡◌, map, take}
use Rattle.cluster_report.specs.Nodes.{node_row}
use Rattle.cluster_report.proofs.nodes.node_rows.Given as goal

abbrev pub invariant-loop-node : goal.invariant-loop-node
invariant-loop-node l = l.rows.items ≡ map (node_row l.manager) (take l.node-index l.nodes)
