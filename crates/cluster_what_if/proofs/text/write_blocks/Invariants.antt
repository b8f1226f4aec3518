use Rattle.std.proofs.Common.{◌≡◌, ◌++◌, string_bytes, take}
use Rattle.std.specs.List.{flat_map}
use Rattle.cluster_what_if.specs.Text.{block_line}
use Rattle.cluster_what_if.proofs.text.write_blocks.Given as goal

abbrev pub invariant-loop-block : goal.invariant-loop-block
invariant-loop-block l = string_bytes l.text ≡ string_bytes l.fn.text ++ flat_map (block_line l.files) (take l.block-index l.blocks)
