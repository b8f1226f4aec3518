-- A line above the length limit is too long; any other asks for the call read from it, or is bad.
use Rattle.std.proofs.Common.{◌≡◌, Option, None, Some, ℕ, ◌<◌, ◌≤◌, List, length, Result, Ok, Err, refl, ◌∙◌}
use Rattle.std.proofs.lemmas.Bool.{lt-ltb, le-ltb}
use Rattle.std.specs.Prelude.{OnErr}
use Rattle.bm_base.specs.declared.call.Call.{Call}
use Rattle.bm_lines.specs.Parser.CallOf.{call_of}
use Rattle.bm_lines.specs.declared.limits.TheConstants.{MAX_LINE}
use Rattle.bm_answers.specs.OneLine.{asked, asked_by}
use Rattle.bm_answers.specs.declared.line_answer.Request.TheVariants.{Long}

pub asked-long : (line : List ℕ) → MAX_LINE < length line → Long ≡ asked line
unfolding asked
asked-long line h = rw (lt-ltb MAX_LINE (length line) h) refl

pub asked-short : (line : List ℕ) → length line ≤ MAX_LINE → asked_by (call_of line) ≡ asked line
unfolding asked
asked-short line h = rw (le-ltb MAX_LINE (length line) h) refl

by_call : (k : Option Call) → asked_by k ≡ Long → ⊥
by_call None e = absurd (cc e)
by_call (Some k) e = absurd (cc e)

not_long : (line : List ℕ) → length line ≤ MAX_LINE → asked line ≡ Long → ⊥
not_long line h e = by_call (call_of line) (asked-short line h ∙ e)

pub on_err_not_long : {T E : Type 0} (r : Result T E) (line : List ℕ) → length line ≤ MAX_LINE → OnErr r (asked line ≡ Long → ⊥)
on_err_not_long (Ok x) line h = tt
on_err_not_long (Err e) line h = not_long line h
