use Rattle.std.proofs.Common.{◌≡◌, ◌≤◌, ◌<◌, ◌^◌, ◌-◌, length, take}
use Rattle.std.specs.Str.Parse.{digits_value, AllDigits}
use Rattle.bm_lines.proofs.parser.canonical_numbers.digits.Given as goal

-- the digits so far, and their number
abbrev pub invariant-loop-count : goal.invariant-loop-count
invariant-loop-count l = record {
  within : l.count ≤ length l.bytes;
  digits : AllDigits 10 (take l.count l.bytes);
  value : l.number ≡ digits_value 10 (take l.count l.bytes);
  fits : l.number < 2 ^ 64;
}

abbrev pub decreases-loop-count : goal.decreases-loop-count
decreases-loop-count l = length l.bytes - l.count
