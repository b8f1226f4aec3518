use Rattle.std.proofs.Common.{◌≡◌, ◌++◌, string_bytes, take}
use Rattle.std.specs.List.{flat_map}
use Rattle.cluster_pages.specs.Text.{urgent_line}
use Rattle.cluster_pages.proofs.text_parts.write_urgent.Given as goal

abbrev pub invariant-loop-found : goal.invariant-loop-found
invariant-loop-found l = string_bytes l.text ≡ string_bytes l.fn.text ++ flat_map (urgent_line l.files) (take l.found-index l.blocks)
