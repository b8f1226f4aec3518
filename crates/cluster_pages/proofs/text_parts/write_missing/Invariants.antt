use Rattle.std.proofs.Common.{◌≡◌, ◌++◌, string_bytes, take}
use Rattle.std.specs.List.{flat_map}
use Rattle.cluster_pages.specs.Text.{missing_line}
use Rattle.cluster_pages.proofs.text_parts.write_missing.Given as goal

abbrev pub invariant-loop-block : goal.invariant-loop-block
invariant-loop-block l = string_bytes l.text ≡ string_bytes l.fn.text ++ flat_map (missing_line l.files) (take l.block-index l.blocks)
