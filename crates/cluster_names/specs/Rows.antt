-- Numbers and names of one kind.
use Rattle.std.specs.Prelude.{◌≡◌, ℕ, Bool, ◌&&◌, nat_eq, List, ◌++◌, Option, Some, None, is_none, option_map, decimal}
use Rattle.std.specs.List.{find}
use Rattle.std.specs.Str.{bytes_eq}

-- bytes
abbrev pub Text : Type 0
Text = List ℕ

-- numbers with their names, in the order of their addition
abbrev pub Rows : Type 0
Rows = List (ℕ × Text)

-- the name of a number
abbrev pub name_of : Rows → ℕ → Option Text
name_of rows number = option_map (λ r. r.1) (find (λ r. nat_eq r.0 number) rows)

-- the number of a name
abbrev pub number_of : Rows → Text → Option ℕ
number_of rows name = option_map (λ r. r.0) (find (λ r. bytes_eq r.1 name) rows)

-- the number has no name, and the name no number
abbrev pub is_free : Rows → ℕ → Text → Bool
is_free rows number name = is_none (name_of rows number) && is_none (number_of rows name)

-- a number has at most one name, and a name at most one number
pub record IsOneToOne (rows : Rows) : Type 0 where
  pub of_name : (number : ℕ) (name : Text) → name_of rows number ≡ Some name → number_of rows name ≡ Some number
  pub of_number : (number : ℕ) (name : Text) → number_of rows name ≡ Some number → name_of rows number ≡ Some name

-- a name, or the kind of the thing and its number
abbrev pub shown : Option Text → Text → ℕ → Text
shown (Some name) kind number = name
shown None kind number = kind ++ decimal number

-- the name of a number, or the kind of the thing and the number
abbrev pub name_or_number : Text → Rows → ℕ → Text
name_or_number kind rows number = shown (name_of rows number) kind number
