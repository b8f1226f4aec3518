use Rattle.std.proofs.Common.{◌≡◌, ◌++◌, string_bytes, take}
use Rattle.std.specs.List.{flat_map}
use Rattle.bm_lines.specs.Print.{replica_item}
use Rattle.bm_lines.proofs.print_items.write_replicas.Given as goal

abbrev pub invariant-loop-replica : goal.invariant-loop-replica
invariant-loop-replica l = string_bytes l.line ≡ string_bytes l.fn.line ++ flat_map replica_item (take l.replica-index l.replicas)
