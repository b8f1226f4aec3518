-- The lines of an input: their calls are made one after another, and refused lines get a note.
use Rattle.std.specs.Prelude.{◌≡◌, ℕ, ◌+◌, ◌==◌, Bool, true, ◌&&◌, List, [], ◌∷◌, ◌++◌, length, nat_lt, if◌then◌else◌, Option, Some, None, IfSome, is_none, codes, decimal}
use Rattle.bm_base.specs.declared.call.Call.{Call}
use Rattle.bm_base.specs.declared.call.Answer.{Answer}
use Rattle.bm_base.specs.Words.{State, step, is_refused}
use Rattle.bm_lines.specs.declared.limits.TheConstants.{MAX_LINE}
use Rattle.bm_lines.specs.Lines.{lines_of}
use Rattle.bm_lines.specs.Parser.CallOf.{call_of}
use Rattle.bm_lines.specs.Print.{answer_text}

-- a line without its line end, 10, if it has one
abbrev pub without_end : List ℕ → List ℕ
without_end [] = []
without_end (b ∷ []) = if b == 10 then [] else b ∷ []
without_end (b ∷ c ∷ bs) = b ∷ without_end (c ∷ bs)

-- the refusal of a call as text; none if it is accepted
abbrev pub refusal_text_of : Call → Answer → Option (List ℕ)
refusal_text_of k a = if is_refused a then Some (answer_text k a) else None

abbrev pub refusal_text_by : State → Option Call → Option (List ℕ)
refusal_text_by M None = Some (codes "refused 20 BadLine")
refusal_text_by M (Some k) = refusal_text_of k (step M k).0

abbrev pub state_by : State → Option Call → State
state_by M None = M
state_by M (Some k) = (step M k).1

-- the refusal of a line as text; none if its call is accepted
unfoldable pub refusal_text : State → List ℕ → Option (List ℕ)
refusal_text M line = if nat_lt MAX_LINE (length line) then Some (codes "refused 21 LongLine") else refusal_text_by M (call_of line)

-- the state after a line
unfoldable pub after_line : State → List ℕ → State
after_line M line = if nat_lt MAX_LINE (length line) then M else state_by M (call_of line)

-- the state after lines
unfoldable pub after_lines : State → List (List ℕ) → State
after_lines M [] = M
after_lines M (l ∷ ls) = after_lines (after_line M l) ls

-- whether no line is refused
unfoldable pub all_accepted : State → List (List ℕ) → Bool
all_accepted M [] = true
all_accepted M (l ∷ ls) = is_none (refusal_text M l) && all_accepted (after_line M l) ls

-- the answer is whether all lines of the input are accepted, if the input is known
abbrev pub IsAllAccepted : Bool → State → Option (List ℕ) → Type 0
IsAllAccepted answer M known = IfSome known (λ input. answer ≡ all_accepted M (lines_of input))

-- the note on the line of this number
unfoldable pub note_text : ℕ → Option (List ℕ) → List ℕ
note_text n None = []
note_text n (Some why) = codes "line " ++ (decimal n ++ (codes ": " ++ (why ++ codes "\n")))

-- the notes on lines; the first line has this number
unfoldable pub notes_text : ℕ → State → List (List ℕ) → List ℕ
notes_text n M [] = []
notes_text n M (l ∷ ls) = note_text n (refusal_text M l) ++ notes_text (n + 1) (after_line M l) ls
