-- The lines of a text, one after another. `after` is the state of a reader, of type T, after one
-- more line, or the cause if the line is refused.
use Rattle.std.specs.Prelude.{◌≡◌, ⊤, ℕ, ◌+◌, ◌==◌, List, [], ◌∷◌, Option, IfSome, Result, Ok, Err, if◌then◌else◌}
use Rattle.std.specs.Str.{is_utf8}
use Rattle.bm_lines.specs.Lines.{lines_of}
use Rattle.fsck_text.specs.Cuts.{Text}
use Rattle.fsck_text.specs.Wrongs.{after_ok}
use Rattle.fsck_import.specs.declared.fault.Cause.{Cause}
use Rattle.fsck_import.specs.declared.fault.Cause.TheVariants as cause
use Rattle.fsck_import.specs.declared.fault.Unread.{Unread}
use Rattle.fsck_import.specs.declared.fault.Fault.{Fault}
use Rattle.fsck_import.specs.declared.fault.Fault.TheVariants as fault

-- a line without this byte at its end
abbrev pub without_end : ℕ → Text → Text
without_end mark [] = []
without_end mark (b ∷ []) = if b == mark then [] else b ∷ []
without_end mark (b ∷ c ∷ bs) = b ∷ without_end mark (c ∷ bs)

-- the result, or its cause with the number of the line
abbrev pub at_line : {A : Type 0} → ℕ → Result A Cause → Result A Unread
at_line n (Ok x) = Ok x
at_line n (Err why) = Err (record { line = n; why = why })

module _ {T : Type 0} (after : T → Text → Result T Cause) where
  -- after a line of these bytes, which must be UTF-8, without the carriage return, 13, at its end
  abbrev pub after_bytes : T → Text → Result T Cause
  after_bytes s line = if is_utf8 line then after s (without_end 13 line) else Err cause.NotText

  -- the state after these lines, the first of which has the number n, and the number of the line
  -- after the last; or the first refused line
  abbrev pub after_lines : ℕ → T → List Text → Result (T × ℕ) Unread
  after_lines n s [] = Ok (s, n)
  after_lines n s (line ∷ lines) = after_ok (λ t. after_lines (n + 1) t lines) (at_line n (after_bytes s line))

  -- after all lines of a text
  abbrev pub after_text : T → Text → Result (T × ℕ) Unread
  after_text start text = after_lines 1 start (lines_of text)

  -- the result is that of the text, if the text is known
  abbrev pub TextGives : T → Option Text → Result (T × ℕ) Unread → Type 0
  TextGives start known outcome = IfSome known (λ text. after_text start text ≡ outcome)

-- the fault is the first refused line, a failed read, or out of memory
abbrev pub IsReadFault : {A : Type 0} → Fault → Result A Unread → Type 0
IsReadFault (fault.Refused unread) outcome = outcome ≡ Err unread
IsReadFault fault.Memory outcome = ⊤
IsReadFault (fault.Read error) outcome = ⊤
IsReadFault (fault.Write error) outcome = ⊥
IsReadFault fault.Table outcome = ⊥
IsReadFault fault.LongReport outcome = ⊥

-- the fault is one of this text, if the text is known
abbrev pub IsFaultOfText : {T : Type 0} → (T → Text → Result T Cause) → T → Fault → Option Text → Type 0
IsFaultOfText after start f known = IfSome known (λ text. IsReadFault f (after_text after start text))
