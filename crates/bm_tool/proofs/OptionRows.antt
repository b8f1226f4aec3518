-- An option's number is that of its given text, or else of its default, if its name is unique.
use Rattle.std.proofs.Common.{◌≡◌, ◌∙◌, ap, Bool, true, false, List, [], ◌∷◌, ◌++◌, fold, Option, Some, None, refl, sym}
use Rattle.std.specs.Prelude.{find, slice_get}
use Rattle.std.specs.List.{list_any}
use Rattle.std.specs.Option.{option_map_or}
use Rattle.std.specs.Str.{bytes_eq}
use Rattle.std.proofs.lemmas.List.Folds.{find-append}
use Rattle.std.proofs.lemmas.List.Sums.{fold-append}
use Rattle.clap.specs.Walk.{Row, Rule, Text, at_row, default_rows, first_of, has_row, more_values, reading_by, with_default}
use Rattle.clap.specs.declared.parser.matches.ValueSource.TheVariants.{DefaultValue}
use Rattle.bm_tool.specs.Options.{number_of}
use Rattle.bm_base.proofs.Options.{or_none}

abbrev pub has_name : Text → Rule → Bool
has_name name a = bytes_eq a.id name

at_new_row : (id : Text) (change : Row → List Row) (missing rows : List Row) → has_row id rows ≡ false → at_row id change missing rows ≡ rows ++ missing
at_new_row id change missing [] none = refl
at_new_row id change missing (r ∷ rs) none = go (bytes_eq r.id id) refl (at_new_row id change missing rs)
  where
    go : (b : Bool) → bytes_eq r.id id ≡ b → (has_row id rs ≡ false → at_row id change missing rs ≡ rs ++ missing)
        → at_row id change missing (r ∷ rs) ≡ r ∷ (rs ++ missing)
    go true e rest =
        let bad : true ≡ false = rw e at none in
        cc
    go false e rest =
        let tail : has_row id rs ≡ false = rw e at none in
        rw (e, rest tail) refl

nothing_found : (id : Text) (rows : List Row) → has_row id rows ≡ false → find (λ (r : Row). bytes_eq r.id id) rows ≡ None
nothing_found id [] none = refl
nothing_found id (r ∷ rs) none = go (bytes_eq r.id id) refl (nothing_found id rs)
  where
    go : (b : Bool) → bytes_eq r.id id ≡ b → (has_row id rs ≡ false → find (λ (x : Row). bytes_eq x.id id) rs ≡ None)
        → find (λ (x : Row). bytes_eq x.id id) (r ∷ rs) ≡ None
    go true e rest =
        let bad : true ≡ false = rw e at none in
        cc
    go false e rest =
        let tail : has_row id rs ≡ false = rw e at none in
        rw e (rest tail)

-- a row at the end for another name
other_row : (name : Text) (rows : List Row) (row : Row) → bytes_eq row.id name ≡ false → first_of name (rows ++ row ∷ []) ≡ first_of name rows
other_row name rows row other =
    let alone : find (λ (r : Row). bytes_eq r.id name) (row ∷ []) ≡ None = rw other refl in
    rw (find-append (λ (r : Row). bytes_eq r.id name) rows (row ∷ []), alone, or_none (find (λ (r : Row). bytes_eq r.id name) rows)) refl

-- a row at the end for this name, where there was none
own_row : (name : Text) (rows : List Row) (row : Row) → has_row name rows ≡ false → bytes_eq row.id name ≡ true
    → first_of name (rows ++ row ∷ []) ≡ slice_get row.values 0
own_row name rows row none own =
    let alone : find (λ (r : Row). bytes_eq r.id name) (row ∷ []) ≡ Some row = rw own refl in
    rw (find-append (λ (r : Row). bytes_eq r.id name) rows (row ∷ []), alone, nothing_found name rows none) refl

-- the standard value of another argument
other_default : (name : Text) (a : Rule) (rows : List Row) → has_name name a ≡ false → first_of name (with_default rows a) ≡ first_of name rows
other_default name a rows other = go (has_row a.id rows) refl
  where
    new : (ds : List Text) → has_row a.id rows ≡ false → first_of name (default_rows a.id (reading_by a) ds rows) ≡ first_of name rows
    new [] none = refl
    new (d ∷ ds) none = rw (at_new_row a.id _ _ rows none) (other_row name rows _ other)

    go : (b : Bool) → has_row a.id rows ≡ b → first_of name (with_default rows a) ≡ first_of name rows
    go true e = rw e refl
    go false e = rw e (new a.defaults e)

other_defaults : (name : Text) (rules : List Rule) (rows : List Row) → list_any (has_name name) rules ≡ false
    → first_of name (fold with_default rows rules) ≡ first_of name rows
other_defaults name [] rows none = refl
other_defaults name (a ∷ rules) rows none = go (has_name name a) refl (other_defaults name rules (with_default rows a))
  where
    go : (b : Bool) → has_name name a ≡ b
        → (list_any (has_name name) rules ≡ false → first_of name (fold with_default (with_default rows a) rules) ≡ first_of name (with_default rows a))
        → first_of name (fold with_default (with_default rows a) rules) ≡ first_of name rows
    go true e rest =
        let bad : true ≡ false = rw e at none in
        cc
    go false e rest =
        let tail : list_any (has_name name) rules ≡ false = rw e at none in
        rest tail ∙ other_default name a rows e

-- the row of an argument that has its standard value
abbrev standard_row : Rule → Text → Row
standard_row a d = record { id = a.id; values = d ∷ []; count = None; source = Some DefaultValue; reading = reading_by a }

-- a text found with the standard values gives the number found without them
own_default : (d : Text) (a : Rule) (rows : List Row) (t : Text) → bytes_eq a.id a.id ≡ true → a.defaults ≡ d ∷ []
    → first_of a.id (with_default rows a) ≡ Some t → option_map_or number_of (first_of a.id rows) (number_of d) ≡ number_of t
own_default d a rows t own defaults found = go (has_row a.id rows) refl
  where
    go : (b : Bool) → has_row a.id rows ≡ b → option_map_or number_of (first_of a.id rows) (number_of d) ≡ number_of t
    go true e =
        let same : first_of a.id rows ≡ Some t = rw e at found in
        rw same refl
    go false e =
        let made : first_of a.id (default_rows a.id (reading_by a) (d ∷ []) rows) ≡ Some t = rw (e, defaults) at found in
        let pushed : default_rows a.id (reading_by a) (d ∷ []) rows ≡ rows ++ standard_row a d ∷ [] = at_new_row a.id (more_values DefaultValue (d ∷ [])) (standard_row a d ∷ []) rows e in
        let end : Some d ≡ Some t = sym (own_row a.id rows (standard_row a d) e own) ∙ (ap (first_of a.id) (sym pushed) ∙ made) in
        let none : first_of a.id rows ≡ None = rw (nothing_found a.id rows e) refl in
        rw none (ap (λ (o : Option Text). option_map_or number_of o 0) end)

-- `own_default` where other arguments have standard values before and after
pub given_or_standard : (d : Text) (before : List Rule) (a : Rule) (after : List Rule) (rows : List Row) (t : Text)
    → bytes_eq a.id a.id ≡ true → a.defaults ≡ d ∷ [] → list_any (has_name a.id) before ≡ false → list_any (has_name a.id) after ≡ false
    → first_of a.id (fold with_default rows (before ++ a ∷ after)) ≡ Some t
    → option_map_or number_of (first_of a.id rows) (number_of d) ≡ number_of t
given_or_standard d before a after rows t own defaults none_before none_after found =
    let split : first_of a.id (fold with_default (fold with_default rows before) (a ∷ after)) ≡ Some t
    = ap (first_of a.id) (sym (fold-append with_default rows before (a ∷ after))) ∙ found in
    let last = sym (other_defaults a.id after (with_default (fold with_default rows before) a) none_after) ∙ split in
    let here = own_default d a (fold with_default rows before) t own defaults last in
    rw (other_defaults a.id before rows none_before) at here
