-- Tables made by a function: an entry for each of some numbers.
use Rattle.std.specs.Prelude.{ℕ, List, map, unwrap_or}
use Rattle.bm_base.specs.Maps.Map.{Map, by_number, empty, get, insert_all}

-- the numbers, each with its image under f
abbrev pub listed : {X : Type 0} → (ℕ → X) → List ℕ → List (ℕ × X)
listed f ks = map (λ k. (k, f k)) ks

-- the table of them
unfoldable pub table : {X : Type 0} → (ℕ → X) → List ℕ → Map by_number X
table f ks = insert_all empty (listed f ks)

-- 0 for each number: nothing is scheduled yet
abbrev pub none_sent : ℕ → ℕ
none_sent = λ _. 0

-- the count of a number; 0 if it has none
unfoldable pub count_at : Map by_number ℕ → ℕ → ℕ
count_at counts k = unwrap_or (get counts k) 0
