use Rattle.std.proofs.Common.{◌≡◌, ◌++◌, string_bytes, take}
use Rattle.std.specs.List.{flat_map}
use Rattle.bm_lines.specs.Print.{delete_item}
use Rattle.bm_lines.proofs.print_items.write_deletes.Given as goal

abbrev pub invariant-loop-delete : goal.invariant-loop-delete
invariant-loop-delete l = string_bytes l.line ≡ string_bytes l.fn.line ++ flat_map (delete_item l.node) (take l.delete-index l.deletes)
