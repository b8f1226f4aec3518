use Rattle.std.proofs.Common.{◌≡◌, ◌++◌, string_bytes, take}
use Rattle.std.specs.List.{flat_map}
use Rattle.bm_lines.specs.Print.{number_item}
use Rattle.bm_lines.proofs.print_items.write_blocks.Given as goal

abbrev pub invariant-loop-block : goal.invariant-loop-block
invariant-loop-block l = string_bytes l.line ≡ string_bytes l.fn.line ++ flat_map number_item (take l.block-index l.blocks)
