use Rattle.std.proofs.Common.{◌≡◌, ◌++◌, string_bytes, take}
use Rattle.std.specs.List.{flat_map}
use Rattle.cluster_what_if.specs.RepairText.{retirement_line}
use Rattle.cluster_what_if.proofs.repair_text.write_retirements.Given as goal

abbrev pub invariant-loop-node : goal.invariant-loop-node
invariant-loop-node l = string_bytes l.text ≡ string_bytes l.fn.text ++ flat_map (retirement_line l.names l.repair.retired.items) (take l.node-index l.repair.drained.items)
