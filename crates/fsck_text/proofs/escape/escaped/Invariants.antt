use Rattle.std.proofs.Common.{◌≡◌, string_bytes}
use Rattle.std.specs.List.{flat_map}
use Rattle.fsck_text.specs.Escapes.{printed}
use Rattle.fsck_text.proofs.escape.escaped.Given as goal

-- the characters so far
abbrev pub invariant-loop-letter : goal.invariant-loop-letter
invariant-loop-letter l = string_bytes l.printed ≡ flat_map printed l.yielded
