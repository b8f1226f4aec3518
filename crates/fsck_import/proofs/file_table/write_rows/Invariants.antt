use Rattle.std.proofs.Common.{◌≡◌, ◌++◌, string_bytes, take}
use Rattle.std.specs.List.{flat_map}
use Rattle.fsck_import.specs.FileTables.{file_line}
use Rattle.fsck_import.proofs.file_table.write_rows.Given as goal

-- the rows so far
abbrev pub invariant-loop-index : goal.invariant-loop-index
invariant-loop-index l = string_bytes l.text ≡ string_bytes l.fn.text ++ flat_map (file_line l.files.paths) (take l.index l.files.file_indices)
