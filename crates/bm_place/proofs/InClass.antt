-- Sorted storages of one class are in the order of choice, and stay so if one is taken out.
use Rattle.std.specs.List.Sorted.{IsSorted}
use Rattle.std.proofs.Common.{◌≡◌, ◌+◌, ◌==◌, ℕ, suc, Bool, true, false, ◌||◌, List, [], ◌∷◌, ◌++◌, map, slice_index_or, refl, subst, arith}
use Rattle.std.specs.Ordering.{is_lt, nat_cmp, ordering_then}
use Rattle.std.specs.Cmp.{IsStrictWeakOrder, nat_cmp_total}
use Rattle.std.proofs.lemmas.Bool.{eqb-true, false≢true, or_right}
use Rattle.std.proofs.lemmas.Cmp.{on_total, then_total, back_total}
use Rattle.std.proofs.lemmas.List.MinMax.{ranks_by}
use Rattle.bm_base.specs.Words.{Cluster, has, remaining}
use Rattle.bm_place.specs.declared.holders.Holder.{Holder}
use Rattle.bm_place.specs.Holders.{holder_at}
use Rattle.bm_place.specs.SortedExcess.{cmp_in_class}

-- the sort's requirement of the order
pub ranks_in_class : IsStrictWeakOrder (λ (g h : Holder). is_lt (cmp_in_class g h))
ranks_in_class =
    ranks_by (then_total (on_total (λ (h : Holder). h.remaining) nat_cmp_total) (on_total (λ (h : Holder). h.storage) (back_total nat_cmp_total))) (λ (h : Holder). h)

-- a number of a list is also in the list with one more number
pub has_more : (xs ys : List ℕ) (x y : ℕ) → has (xs ++ ys) y ≡ true → has (xs ++ x ∷ ys) y ≡ true
has_more [] ys x y there = or_right (x == y) (has ys y) there
has_more (z ∷ xs) ys x y there = by (z == y) there (has_more xs ys x y)
  where
    by : (b : Bool) → (b || has (xs ++ ys) y) ≡ true → (has (xs ++ ys) y ≡ true → has (xs ++ x ∷ ys) y ≡ true) → (b || has (xs ++ x ∷ ys) y) ≡ true
    by true there rest = refl
    by false there rest = rest there

module _ (C : Cluster) where
  -- whether one storage comes before another, if both are of one class
  abbrev pub is_better_than : ℕ → ℕ → Bool
  is_better_than s t = is_lt (cmp_in_class (holder_at C s) (holder_at C t))

  -- no storage comes before an earlier one
  abbrev pub InOrder : List ℕ → Type 0
  InOrder [] = Unit {0}
  InOrder (x ∷ xs) = ((y : ℕ) → has xs y ≡ true → is_better_than y x ≡ false) × InOrder xs

  pub order_without : (xs ys : List ℕ) (x : ℕ) → InOrder (xs ++ x ∷ ys) → InOrder (xs ++ ys)
  order_without [] ys x h = h.1
  order_without (z ∷ xs) ys x h = (λ y there. h.0 y (has_more xs ys x y there), order_without xs ys x h.1)

  pub order_behind : (xs ys : List ℕ) (x : ℕ) → InOrder (xs ++ x ∷ ys) → (y : ℕ) → has ys y ≡ true → is_better_than y x ≡ false
  order_behind [] ys x h = h.0
  order_behind (z ∷ xs) ys x h = order_behind xs ys x h.1

  pub not_itself : (x : ℕ) → is_better_than x x ≡ false
  not_itself x = same (remaining C x) x
    where
      same : (n x : ℕ) → is_lt (ordering_then (nat_cmp n n) (nat_cmp x x)) ≡ false
      same n x = grind arith

  behind_first : (x z : ℕ) (xs : List ℕ) → is_better_than z x ≡ false → InOrder (z ∷ xs) → (y : ℕ) → has (z ∷ xs) y ≡ true → is_better_than y x ≡ false
  behind_first x z xs first rest y there = by (z == y) refl there
    where
      by : (b : Bool) → (z == y) ≡ b → (b || has xs y) ≡ true → is_better_than y x ≡ false
      by true e there = subst (λ s. is_better_than s x ≡ false) (eqb-true z y e) first
      by false e there = ranks_in_class.chain (holder_at C y) (holder_at C z) (holder_at C x) (rest.0 y there) first

  -- the result of a sort
  pub sorted_order : (xs : List ℕ) → IsSorted cmp_in_class (map (holder_at C) xs) → InOrder xs
  sorted_order [] h = tt
  sorted_order (x ∷ []) h = (λ y none. absurd (false≢true none), tt)
  sorted_order (x ∷ z ∷ xs) h =
      let later : IsSorted cmp_in_class (map (holder_at C) (z ∷ xs)) =
      λ k d low lt.
      let one : suc k + 1 ≡ suc (k + 1) = omega arith in
      subst (λ m. is_lt (cmp_in_class (slice_index_or (map (holder_at C) (x ∷ z ∷ xs)) m d) (slice_index_or (map (holder_at C) (z ∷ xs)) k d)) ≡ false) one
      (h (suc k) d (omega arith) (omega (arith, lt))) in
      let rest = sorted_order (z ∷ xs) later in
      (λ y there. behind_first x z xs (h 0 (holder_at C x) (omega arith) (omega arith)) rest y there, rest)
