use Rattle.std.proofs.Common.{◌≡◌, ◌++◌, string_bytes, take}
use Rattle.std.specs.List.{flat_map}
use Rattle.cluster_what_if.specs.Table.{row_text}
use Rattle.cluster_what_if.proofs.table.write_rows.Given as goal

abbrev pub invariant-loop-row : goal.invariant-loop-row
invariant-loop-row l = string_bytes l.text ≡ string_bytes l.fn.text ++ flat_map (row_text l.names l.files l.kind) (take l.row-index l.rows)
