use Rattle.std.proofs.Common.{◌≡◌, ◌++◌, string_bytes, take}
use Rattle.std.specs.List.{flat_map}
use Rattle.bm_lines.specs.Print.{transfer_item}
use Rattle.bm_lines.proofs.print_items.write_transfers.Given as goal

abbrev pub invariant-loop-transfer : goal.invariant-loop-transfer
invariant-loop-transfer l = string_bytes l.line ≡ string_bytes l.fn.line ++ flat_map (transfer_item l.node) (take l.transfer-index l.transfers)
