-- The buffer of a line, by the bytes since the last line end.
use Rattle.std.specs.Prelude.{◌≡◌, ℕ, ◌<◌, ◌≤◌, Bool, true, false, ◌||◌, nat_lt, List, length}
use Rattle.bm_lines.specs.declared.line.Line.{Line}
use Rattle.bm_lines.specs.declared.limits.TheConstants.{MAX_LINE}

abbrev pub HoldsIf : Bool → List ℕ → List ℕ → Type 0
HoldsIf true bytes rest = MAX_LINE < length rest
HoldsIf false bytes rest = (bytes ≡ rest) × (length rest ≤ MAX_LINE)

abbrev pub Holds : Line → List ℕ → Type 0
Holds line rest = HoldsIf line.is_long line.bytes.items rest

-- the line has bytes
abbrev pub is_begun : Line → Bool
is_begun line = line.is_long || nat_lt 0 (length line.bytes.items)
