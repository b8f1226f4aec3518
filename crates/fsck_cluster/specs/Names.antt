-- The names of one kind, numbered from 1 in the order of their first occurrence.
use Rattle.std.specs.Prelude.{ℕ, ◌+◌, ◌-◌, slice_index_or, Bool, not, List, [], ◌∷◌, ◌++◌, if◌then◌else◌}
use Rattle.std.specs.List.{list_any, position_or_len}
use Rattle.std.specs.Str.{bytes_eq}
use Rattle.fsck_text.specs.Cuts.{Text}

-- whether a name is new
abbrev pub is_new : List Text → Text → Bool
is_new names name = not (list_any (bytes_eq name) names)

-- the number of a name; a new one comes after all others
abbrev pub name_number : List Text → Text → ℕ
name_number names name = position_or_len (bytes_eq name) names + 1

-- the name of this number; empty if it has none
abbrev pub name_of : List Text → ℕ → Text
name_of names number = slice_index_or names (number - 1) []

-- the names with this one, which is added at the end if it is new
abbrev pub with_name : List Text → Text → List Text
with_name names name = if is_new names name then names ++ name ∷ [] else names
