use Rattle.std.proofs.Common.{◌≡◌, ◌++◌, string_bytes, take}
use Rattle.std.specs.List.{flat_map}
use Rattle.cluster_what_if.specs.Text.{node_line}
use Rattle.cluster_what_if.proofs.text.write_nodes.Given as goal

abbrev pub invariant-loop-node : goal.invariant-loop-node
invariant-loop-node l =
    string_bytes l.text
    ≡ string_bytes l.fn.text ++ flat_map (node_line l.what l.loaded.names l.loaded.session.book.topology.cluster) (take l.node-index l.nodes)
