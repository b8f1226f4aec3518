use Rattle.std.proofs.Common.{◌≡◌, ◌++◌, string_bytes, take}
use Rattle.std.specs.List.{flat_map}
use Rattle.cluster_what_if.specs.RepairText.{round_line}
use Rattle.cluster_what_if.proofs.repair_text.write_round_lines.Given as goal

abbrev pub invariant-loop-row : goal.invariant-loop-row
invariant-loop-row l = string_bytes l.text ≡ string_bytes l.fn.text ++ flat_map round_line (take l.row-index l.rows)
