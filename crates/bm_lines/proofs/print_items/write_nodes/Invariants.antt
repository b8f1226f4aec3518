use Rattle.std.proofs.Common.{◌≡◌, ◌++◌, string_bytes, take}
use Rattle.std.specs.List.{flat_map}
use Rattle.bm_lines.specs.Print.{node_items}
use Rattle.bm_lines.proofs.print_items.write_nodes.Given as goal

abbrev pub invariant-loop-node : goal.invariant-loop-node
invariant-loop-node l = string_bytes l.line ≡ string_bytes l.fn.line ++ flat_map node_items (take l.node-index l.nodes)
