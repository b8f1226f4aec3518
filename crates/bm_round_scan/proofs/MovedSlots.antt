-- Filtering or appending a list in another order gives the same elements in another order.
use Rattle.std.proofs.Common.{◌≡◌, ℕ, zero, suc, ◌<◌, Bool, true, false, cond, List, [], ◌∷◌, ◌++◌, map, filter, length, get_or, set, swap, sym, subst, arith}
use Rattle.std.specs.List.Sorted.{IsPermutation}
use Rattle.std.proofs.lemmas.List.Sorted.{IsPermutation-refl, IsPermutation-keeps, IsPermutation-cons, IsPermutation-map, IsPermutation-trans, IsPermutation-append_left, IsPermutation-append_right, IsPermutation-append_comm}

module _ {X : Type 0} (p : X → Bool) where
  -- the passing elements of ys are those of xs, in another order
  abbrev PassAlike : List X → List X → Type 0
  PassAlike xs ys = IsPermutation (filter p xs) (filter p ys)

  skip : (x : X) (xs ys : List X) → PassAlike xs ys → PassAlike (x ∷ xs) (x ∷ ys)
  skip x xs ys h = by (p x)
    where
      by : (t : Bool) → IsPermutation (cond t (x ∷ filter p xs) (filter p xs)) (cond t (x ∷ filter p ys) (filter p ys))
      by true = IsPermutation-cons x (filter p xs) (filter p ys) h
      by false = h

  turn : (x y : X) (xs : List X) → PassAlike (x ∷ y ∷ xs) (y ∷ x ∷ xs)
  turn x y xs = by (p x) (p y)
    where
      rest : List X
      rest = filter p xs

      by : (s t : Bool) → IsPermutation (cond s (x ∷ cond t (y ∷ rest) rest) (cond t (y ∷ rest) rest)) (cond t (y ∷ cond s (x ∷ rest) rest) (cond s (x ∷ rest) rest))
      by true true = IsPermutation-append_left rest (x ∷ y ∷ []) (y ∷ x ∷ []) (IsPermutation-append_comm (x ∷ []) (y ∷ []))
      by true false = IsPermutation-refl (x ∷ rest)
      by false true = IsPermutation-refl (y ∷ rest)
      by false false = IsPermutation-refl rest

  chain : (xs ys zs : List X) → PassAlike xs ys → PassAlike ys zs → PassAlike xs zs
  chain xs ys zs = IsPermutation-trans (filter p xs) (filter p ys) (filter p zs)

  to_head : (l : List X) (j : ℕ) (x d : X) → j < length l → PassAlike (x ∷ l) (get_or l j d ∷ set l j x)
  to_head [] j x d h = absurd (omega arith)
  to_head (y ∷ l) zero x d h = turn x y l
  to_head (y ∷ l) (suc j) x d h =
      chain (x ∷ y ∷ l) (y ∷ x ∷ l) (get_or l j d ∷ y ∷ set l j x) (turn x y l)
      (chain (y ∷ x ∷ l) (y ∷ get_or l j d ∷ set l j x) (get_or l j d ∷ y ∷ set l j x) (skip y (x ∷ l) (get_or l j d ∷ set l j x) (to_head l j x d (omega arith))) (turn y (get_or l j d) (set l j x)))

  exchanged : (l : List X) (i j : ℕ) (d : X) → i < length l → j < length l → PassAlike l (set (set l i (get_or l j d)) j (get_or l i d))
  exchanged [] i j d a b = absurd (omega arith)
  exchanged (x ∷ l) zero zero d a b = IsPermutation-refl (filter p (x ∷ l))
  exchanged (x ∷ l) zero (suc j) d a b = to_head l j x d (omega arith)
  exchanged (x ∷ l) (suc i) zero d a b = to_head l i x d (omega arith)
  exchanged (x ∷ l) (suc i) (suc j) d a b = skip x l (set (set l i (get_or l j d)) j (get_or l i d)) (exchanged l i j d (omega arith) (omega arith))

  swapped : (l : List X) (i j : ℕ) → i < length l → j < length l → PassAlike l (swap l i j)
  swapped [] i j a b = IsPermutation-refl []
  swapped (x ∷ l) i j a b = exchanged (x ∷ l) i j x a b

  -- the passing elements of a list in another order are the same, in another order
  pub passing_moved : (xs ys : List X) → IsPermutation xs ys → PassAlike xs ys
  passing_moved xs = IsPermutation-keeps xs (PassAlike xs) (IsPermutation-refl (filter p xs)) (λ l i j a b h. chain xs l (swap l i j) h (swapped l i j a b))

  -- the passing ones of ys are appended in place of those of xs
  pub appended_moved : {Y : Type 0} (f : X → Y) (old new : List Y) (xs ys : List X) → IsPermutation xs ys → new ≡ old ++ map f (filter p ys) → IsPermutation (old ++ map f (filter p xs)) new
  appended_moved f old new xs ys moved is =
      subst (IsPermutation (old ++ map f (filter p xs))) (sym is)
      (IsPermutation-append_right old (map f (filter p xs)) (map f (filter p ys)) (IsPermutation-map f (filter p xs) (filter p ys) (passing_moved xs ys moved)))

-- more is appended to a list in another order, and all of that comes into another order
pub moved_on : {Y : Type 0} (xs ys more zs : List Y) → IsPermutation xs ys → IsPermutation (ys ++ more) zs → IsPermutation (xs ++ more) zs
moved_on xs ys more zs moved again = IsPermutation-trans (xs ++ more) (ys ++ more) zs (IsPermutation-append_left more xs ys moved) again
