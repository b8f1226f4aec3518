use Rattle.std.proofs.Common.{◌≡◌, ◌++◌, string_bytes, take}
use Rattle.std.specs.List.{flat_map}
use Rattle.fsck_import.specs.NameTable.{storage_line}
use Rattle.fsck_import.proofs.name_table.write_storages.Given as goal

-- the lines of the storages so far
abbrev pub invariant-loop-row : goal.invariant-loop-row
invariant-loop-row l = string_bytes l.text ≡ string_bytes l.fn.text ++ flat_map (storage_line l.cluster) (take l.row-index l.row-items)
