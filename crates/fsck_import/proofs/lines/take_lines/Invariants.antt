use Rattle.std.proofs.Common.{◌≡◌, ℕ, List, Some}
use Rattle.bm_lines.specs.Lines.{lines_of}
use Rattle.fsck_import.specs.Lines.{after_lines, after_text}
use Rattle.fsck_import.proofs.lines.take_lines.Given as goal

-- of a text that is known the lines that are left come after those that were taken
abbrev pub invariant-loop-number : goal.invariant-loop-number
invariant-loop-number g l = (text : List ℕ) → g.R.Read.remaining l.fn.reader ≡ Some text
    → (rest : List ℕ) × (g.R.Read.remaining l.reader ≡ Some rest) × (after_text g.T.TakesLines.after l.fn.taker text ≡ after_lines g.T.TakesLines.after l.number l.taker (lines_of rest))
