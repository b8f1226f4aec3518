use Rattle.std.proofs.Common.{◌≡◌, ◌++◌, string_bytes, take}
use Rattle.std.specs.List.{flat_map}
use Rattle.bm_lines.specs.Print.{number_item}
use Rattle.bm_lines.proofs.print_items.write_storages.Given as goal

abbrev pub invariant-loop-storage : goal.invariant-loop-storage
invariant-loop-storage l = string_bytes l.line ≡ string_bytes l.fn.line ++ flat_map number_item (take l.storage-index l.storages)
