-- Why a line is refused.
use Rattle.std.specs.Prelude.{◌≡◌, ⊤, Option, Some, None, Result, Ok, Err, if◌then◌else◌}
use Rattle.fsck_text.specs.Cuts.{Text, is_empty}
use Rattle.fsck_text.specs.declared.reason.Reason.{Reason}
use Rattle.fsck_text.specs.declared.reason.Wrong.{Wrong}
use Rattle.fsck_text.specs.declared.reason.Fault.{Fault}
use Rattle.fsck_text.specs.declared.reason.Fault.TheVariants as fault

abbrev pub wrong : Reason → Text → Wrong
wrong why word = record { why = why; word = word }

-- the word to quote: a word of the text, or the whole text if the word is empty
abbrev pub shown : Text → Text → Text
shown word text = if is_empty word then text else word

-- the value, or the fault with this word
abbrev pub or_wrong : {A : Type 0} → Reason → Text → Option A → Result A Wrong
or_wrong why word (Some x) = Ok x
or_wrong why word None = Err (wrong why word)

-- applies a function to a value, if there is one
abbrev pub after_ok : {A B E : Type 0} → (A → Result B E) → Result A E → Result B E
after_ok f (Ok x) = f x
after_ok f (Err e) = Err e

-- the fault is that of this result, or out of memory
abbrev pub IsCause : {A : Type 0} → Fault → Result A Wrong → Type 0
IsCause fault.Memory read = ⊤
IsCause (fault.Wrong w) read = read ≡ Err w
