-- A word that cannot be parsed.
use Rattle.std.specs.Prelude.{ℕ}
use Rattle.fsck_text.specs.Cuts.{Text, column_of}
use Rattle.fsck_text.specs.Escapes.{escaped}
use Rattle.fsck_text.specs.declared.reason.Reason.{Reason}
use Rattle.fsck_text.specs.declared.reason.Wrong.{Wrong}

-- a word that cannot be parsed as it is printed, its first column, and what is wrong with it
pub record Quoted : Type 0 where
  pub column : ℕ
  pub word : Text
  pub why : Reason

abbrev pub quoted : Text → Wrong → Quoted
quoted line wrong = record { column = column_of wrong.word line; word = escaped wrong.word; why = wrong.why }
