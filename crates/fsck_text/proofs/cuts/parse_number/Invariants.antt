use Rattle.std.proofs.Common.{◌≡◌, drop}
use Rattle.fsck_text.specs.Cuts.{number_of, number_after}
use Rattle.fsck_text.proofs.cuts.parse_number.Given as goal

-- the number of the text is the value followed by the remaining digits
abbrev pub invariant-loop-digit : goal.invariant-loop-digit
invariant-loop-digit l = number_of l.text ≡ number_after l.value (drop l.digit-index l.text)
