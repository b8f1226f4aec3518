use Rattle.std.proofs.Common.{◌≡◌, ◌++◌, string_bytes, take}
use Rattle.std.specs.List.{flat_map}
use Rattle.fsck_import.specs.NameTable.{node_line}
use Rattle.fsck_import.proofs.name_table.write_nodes.Given as goal

-- the lines of the nodes so far
abbrev pub invariant-loop-node : goal.invariant-loop-node
invariant-loop-node l = string_bytes l.text ≡ string_bytes l.fn.text ++ flat_map (node_line l.cluster) (take l.node-index l.node-items)
