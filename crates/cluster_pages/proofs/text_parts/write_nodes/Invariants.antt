use Rattle.std.proofs.Common.{◌≡◌, ◌++◌, string_bytes, take}
use Rattle.std.specs.List.{flat_map}
use Rattle.cluster_pages.specs.Text.{node_text}
use Rattle.cluster_pages.proofs.text_parts.write_nodes.Given as goal

abbrev pub invariant-loop-node : goal.invariant-loop-node
invariant-loop-node l = string_bytes l.text ≡ string_bytes l.fn.text ++ flat_map (node_text l.names l.all) (take l.node-index l.nodes)
