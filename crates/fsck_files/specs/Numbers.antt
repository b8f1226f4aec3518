-- A set of numbers.
use Rattle.std.specs.Prelude.{ℕ, ◌==◌, Bool, List, [], ◌∷◌, ◌++◌, if◌then◌else◌}
use Rattle.std.specs.List.{list_any}

abbrev pub has_number : List ℕ → ℕ → Bool
has_number numbers n = list_any (λ m. m == n) numbers

abbrev pub with_number : List ℕ → ℕ → List ℕ
with_number numbers n = if has_number numbers n then numbers else numbers ++ n ∷ []
