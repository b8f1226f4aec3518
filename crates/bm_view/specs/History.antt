-- The one list of versions, and its position in a journal.
use Rattle.std.specs.Prelude.{ℕ, ◌+◌, ◌-◌, ◌<◌, ◌≤◌, Bool, true, false, List, [], ◌∷◌, length, slice_index_or}
use Rattle.std.specs.List.Sorted.{IsNonDecreasingBy}
use mathlib.Core.List.{IsPrefix}
use Rattle.bm_view.specs.declared.journal.JournalEntry.{JournalEntry}
use Rattle.bm_base.specs.Promises.Versions.{Version}
use Rattle.bm_view.specs.Version.{opening}

-- the last version; no list of a contract is empty
abbrev pub last_of : List Version → Version
last_of list = slice_index_or list (length list - 1) opening

-- the last version has at most n calls
abbrev pub EndsBy : ℕ → List Version → Type 0
EndsBy calls list = (last_of list).calls ≤ calls

-- it begins with the opening version, and its calls never fall
pub record IsHistory (list : List Version) : Type 0 where
  pub opens : IsPrefix (opening ∷ []) list
  pub ascends : IsNonDecreasingBy (λ v. v.calls) list

abbrev pub put_if : Bool → Version → List Version → List Version
put_if true v vs = v ∷ vs
put_if false v vs = vs

-- the versions that were settled: the one list, as far as this journal goes
abbrev pub versions : List JournalEntry → List Version
versions [] = []
versions (e ∷ es) = put_if e.done e.table (versions es)

-- The list of a reader that finds the table of the last entry: the versions that were settled
-- before, and then that one, settled or not.
abbrev pub shown_in : List JournalEntry → List Version
shown_in [] = []
shown_in (e ∷ []) = e.table ∷ []
shown_in (e ∷ f ∷ es) = put_if e.done e.table (shown_in (f ∷ es))

-- A journal that a locator may learn. A reader may find the table of the journal's last entry, or
-- of the entry before that: either way the journal's versions are a prefix of the reader's list.
-- A journal that ends with a settlement is one.
abbrev pub IsSettled : List JournalEntry → Type 0
IsSettled log = (shown : List JournalEntry) → IsPrefix shown log → length log ≤ length shown + 1 → 0 < length shown → IsPrefix (versions log) (shown_in shown)
