-- A line of a text. It ends with the byte 10.
use Rattle.std.specs.Prelude.{ℕ, List, ◌++◌, codes, decimal}

-- a name and its count
unfoldable pub count_line : List ℕ → ℕ → List ℕ
count_line what n = what ++ (codes " " ++ (decimal n ++ codes "\n"))
