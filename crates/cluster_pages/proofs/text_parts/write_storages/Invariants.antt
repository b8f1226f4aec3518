use Rattle.std.proofs.Common.{◌≡◌, ◌++◌, string_bytes, take}
use Rattle.std.specs.List.{flat_map}
use Rattle.cluster_pages.specs.Text.{storage_line}
use Rattle.cluster_pages.proofs.text_parts.write_storages.Given as goal

abbrev pub invariant-loop-row : goal.invariant-loop-row
invariant-loop-row l = string_bytes l.text ≡ string_bytes l.fn.text ++ flat_map (storage_line l.names l.all) (take l.row-index l.rows)
