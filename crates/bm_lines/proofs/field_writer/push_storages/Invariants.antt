use Rattle.std.proofs.Common.{◌≡◌, ◌++◌, ℕ, ◌<◌, ◌^◌, All, codes, decimal, string_bytes, take}
use Rattle.std.specs.List.{flat_map}
use Rattle.bm_lines.proofs.field_writer.push_storages.Given as goal

-- the items so far are written, and they fit
abbrev pub invariant-loop-storage : goal.invariant-loop-storage
invariant-loop-storage l = record {
  text : string_bytes l.line ≡ string_bytes l.initial.line ++ flat_map (λ y. codes "," ++ decimal y) (take l.storage-index l.others);
  fits : All (λ (s : ℕ). s < 2 ^ 32) (take l.storage-index l.others);
}
