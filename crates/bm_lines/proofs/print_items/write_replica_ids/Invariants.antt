use Rattle.std.proofs.Common.{◌≡◌, ◌++◌, string_bytes, take}
use Rattle.std.specs.List.{flat_map}
use Rattle.bm_lines.specs.Print.{replica_id_item}
use Rattle.bm_lines.proofs.print_items.write_replica_ids.Given as goal

abbrev pub invariant-loop-id : goal.invariant-loop-id
invariant-loop-id l = string_bytes l.line ≡ string_bytes l.fn.line ++ flat_map replica_id_item (take l.id-index l.ids)
