use Rattle.std.proofs.Common.{◌≡◌, ◌++◌, All, codes, string_bytes, take}
use Rattle.std.specs.List.{flat_map}
use Rattle.bm_lines.specs.CallText.{entry_text}
use Rattle.bm_lines.specs.FittingNumbers.{FitsEntry}
use Rattle.bm_lines.proofs.field_writer.push_entries.Given as goal

-- the items so far are written, and they fit
abbrev pub invariant-loop-entry : goal.invariant-loop-entry
invariant-loop-entry l = record {
  text : string_bytes l.line ≡ string_bytes l.initial.line ++ flat_map (λ y. codes "," ++ entry_text y) (take l.entry-index l.others);
  fits : All FitsEntry (take l.entry-index l.others);
}
