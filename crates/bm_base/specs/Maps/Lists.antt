-- Definitions on lists of numbers, the least of a list, and words for options and orders.
use Rattle.std.specs.Prelude.{ℕ, Bool, false, ◌||◌, if◌then◌else◌, ◌==◌, List, [], ◌∷◌, map, Option, Some, None}
use Rattle.std.specs.declared.cmp.Ordering.{Ordering}
use Rattle.std.specs.Ordering.{is_lt, ordering_then}
use Rattle.std.specs.Option.{option_map_or}
use Rattle.std.specs.List.{list_any}
use Rattle.bm_base.specs.Maps.Map.{by_number, insert_all, empty, keys}

-- whether there is something, and it passes a test
abbrev pub has_some : {X : Type 0} → Option X → (X → Bool) → Bool
has_some found test = option_map_or test found false

-- the first comparison, and the second if the first finds no difference
infixr 4 ◌if_equal◌
abbrev pub ◌if_equal◌ : Ordering → Ordering → Ordering
first if_equal second = ordering_then first second

abbrev pub has : List ℕ → ℕ → Bool
has xs x = list_any (λ y. y == x) xs

-- whether a number occurs twice in a list
abbrev pub has_repeats : List ℕ → Bool
has_repeats [] = false
has_repeats (x ∷ xs) = has xs x || has_repeats xs

-- each number once, ascending
unfoldable pub distinct : List ℕ → List ℕ
distinct xs = keys {o = by_number} (insert_all (empty {X = Unit {0}}) (map (λ x. (x, tt)) xs))

-- the least of a list in an order; of equals the first
abbrev pub least : {X : Type 0} → (X → X → Ordering) → List X → Option X
least R [] = None
least R (x ∷ xs) = Some (option_map_or (λ y. if is_lt (R y x) then y else x) (least R xs) x)
