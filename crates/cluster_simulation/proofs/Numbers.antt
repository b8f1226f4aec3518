-- The numbers below n + 1 that pass a test are those below n, and n if it passes.
use Rattle.std.proofs.Common.{◌≡◌, ◌+◌, ℕ, zero, suc, Bool, true, false, List, [], ◌∷◌, ◌++◌, map, filter, ap, ◌∙◌, arith}
use Rattle.std.specs.List.{range_with_len}
use Rattle.std.proofs.lemmas.List.Elements.{filter-append}
use Rattle.std.proofs.lemmas.List.{map-append}
use Rattle.cluster_simulation.specs.Incidents.{numbers_where}

one_longer : (a n j : ℕ) → a + n ≡ j → range_with_len a (n + 1) ≡ range_with_len a n ++ j ∷ []
one_longer a zero j e = grind arith
one_longer a (suc n) j e = grind (arith, one_longer (a + 1) n j (omega arith))

-- the next number passes the test
pub one_more_number : {X : Type 0} (f : ℕ → X) (p : ℕ → Bool) (n : ℕ) → p n ≡ true → map f (numbers_where p (n + 1)) ≡ map f (numbers_where p n) ++ f n ∷ []
one_more_number f p n h = grind (arith, one_longer 0 n n (omega arith), filter-append p (range_with_len 0 n) (n ∷ []), map-append f (filter p (range_with_len 0 n)) (n ∷ []))

nothing_added : {X : Type 0} (p : X → Bool) (xs : List X) (x : X) → p x ≡ false → filter p (xs ++ x ∷ []) ≡ filter p xs
nothing_added p [] x h = grind arith
nothing_added p (y ∷ xs) x h = grind (arith, nothing_added p xs x h)

-- the next number fails the test
pub no_more_number : (p : ℕ → Bool) (n : ℕ) → p n ≡ false → numbers_where p (n + 1) ≡ numbers_where p n
no_more_number p n h = ap (filter p) (one_longer 0 n n (omega arith)) ∙ nothing_added p (range_with_len 0 n) n h
