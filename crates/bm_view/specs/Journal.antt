-- Each line is written with a one-shot token, its pen, and names the pen of the journal's next
-- line. So only the owner of a journal's last pen can extend it, and until then the owner knows the
-- whole journal.
use Rattle.std.specs.Prelude.{◌≡◌, ℕ, ◌<◌, ◌==◌, Bool, true, false, List, [], ◌∷◌, ◌++◌, length}
use Rattle.logbook.specs.Pages.{Cell, cell, Step, View, Book, Named, nib, may_make}
use Rattle.bm_view.specs.declared.journal.JournalEntry.{JournalEntry}
use Rattle.bm_view.specs.declared.journal.JournalLine.{JournalLine}
use Rattle.bm_base.specs.Promises.Versions.{Version}
use Rattle.bm_view.specs.Version.{opening}
use Rattle.bm_view.specs.Holders.{Home}

-- a version that is to be published, or, after a proposal, its withdrawal
abbrev pub proposed : Version → JournalEntry
proposed v = record { done = false; table = v }

-- what was published
abbrev pub settled : Version → JournalEntry
settled v = record { done = true; table = v }

-- the opening version was proposed and settled
abbrev pub opening_log : List JournalEntry
opening_log = proposed opening ∷ settled opening ∷ []

-- what contracts see of a `Journal`, and of a token for a prefix of one
pub record Known : Type 0 where
  pub home : Home
  pub log : List JournalEntry

-- the entry of a line and then `on`, if the journal's current pen wrote the line; else `off`
abbrev pub chain_if : Bool → JournalEntry → List JournalEntry → List JournalEntry → List JournalEntry
chain_if true e on off = e ∷ on
chain_if false e on off = off

-- the entries of the journal whose current pen is this one
abbrev pub chain : ℕ → List JournalLine → List JournalEntry
chain pen [] = []
chain pen (l ∷ ls) = chain_if (l.by == pen) l.entry (chain l.next ls) (chain pen ls)

abbrev pub either_pen : Bool → ℕ → ℕ → ℕ
either_pen true on off = on
either_pen false on off = off

-- the journal's current pen after these lines
abbrev pub tip : ℕ → List JournalLine → ℕ
tip pen [] = pen
tip pen (l ∷ ls) = either_pen (l.by == pen) (tip l.next ls) (tip pen ls)

-- the first pen of the journal that the last line belongs to, or `pen` if there is no line
abbrev pub named : ℕ → List JournalLine → ℕ
named pen [] = pen
named pen (l ∷ ls) = named l.first ls

-- the atomic word that steps change
abbrev pub word_of : Book → Named
word_of b = record { tracked = true; key = 0; book = b }

abbrev pub IsHome : List Cell → ℕ → Type 0
IsHome cells k = (cell cells k).1 ≡ true

-- the pens of these lines are used up
abbrev pub AreUsed : List Cell → List JournalLine → Type 0
AreUsed cells [] = Unit {0}
AreUsed cells (l ∷ ls) = IsHome cells l.by × AreUsed cells ls

pub record IsKept (cells : List Cell) (lines : List JournalLine) : Type 0 where
  pub word : (0 < length cells) × IsHome cells 0
  pub used : AreUsed cells lines

-- there is a new pen
abbrev pub Reserves : Step JournalLine → View JournalLine ℕ → ℕ → View JournalLine ℕ → Type 0
Reserves s v found w = (key : ℕ) × (w.1.0 ≡ nib may_make key 0)

-- The line was written after all that had been seen; lines between are of other journals.
abbrev pub Enters : Step JournalLine → View JournalLine ℕ → ℕ → View JournalLine ℕ → Type 0
Enters s v found w =
    (between : List JournalLine) × (w.0 ≡ (v.0 ++ between) ++ s.ask ∷ []) × (chain s.ask.by between ≡ []) × (tip s.ask.by between ≡ s.ask.by)
