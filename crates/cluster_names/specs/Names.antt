-- The rows of a table of names, as contracts see them, and how they are found.
use Rattle.std.specs.Prelude.{◌≡◌, ℕ, List, map, String, string_bytes}
use Rattle.cluster_names.specs.Rows.{Text, IsOneToOne}

abbrev pub row_of : {Y : Type 0} → String Y × ℕ → ℕ × Text
row_of e = (e.1, string_bytes e.0)

-- the rows are one to one, and the numbers have the same order
pub record IsIndexed {Y : Type 0} (entries : List (String Y × ℕ)) (numbers : List ℕ) : Type 0 where
  pub one : IsOneToOne (map row_of entries)
  pub same : numbers ≡ map (λ e. e.1) entries
