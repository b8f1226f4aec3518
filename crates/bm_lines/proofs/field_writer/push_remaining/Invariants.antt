use Rattle.std.proofs.Common.{◌≡◌, ◌++◌, All, codes, string_bytes, take}
use Rattle.std.specs.List.{flat_map}
use Rattle.bm_lines.specs.CallText.{remaining_text}
use Rattle.bm_lines.specs.FittingNumbers.{FitsRemaining}
use Rattle.bm_lines.proofs.field_writer.push_remaining.Given as goal

-- the items so far are written, and they fit
abbrev pub invariant-loop-free : goal.invariant-loop-free
invariant-loop-free l = record {
  text : string_bytes l.line ≡ string_bytes l.initial.line ++ flat_map (λ y. codes "," ++ remaining_text y) (take l.free-index l.others);
  fits : All FitsRemaining (take l.free-index l.others);
}
