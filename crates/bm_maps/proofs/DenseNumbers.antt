-- In strictly ascending numbers, a key's index is no farther from either end than the key is.
use Rattle.std.proofs.Common.{◌≡◌, ℕ, ◌<◌, ◌≤◌, ◌+◌, ◌-◌, suc, zero, Bool, true, false, cond, List, [], ◌∷◌, length, get_or, T, arith, refl, subst, Ordering, Less, Equal, Greater}
use Rattle.std.specs.Prelude.{◌==◌, nat_lt}
use Rattle.std.specs.Ordering.{nat_cmp}
use Rattle.std.specs.Cmp.{nat_cmp_total}
use Rattle.std.specs.FinMap.{is_sorted}
use Rattle.std.proofs.lemmas.Bool.{eqb-true, ltb-true}
use Rattle.std.proofs.lemmas.Bool.Decides.{nat_tests}
use Rattle.bm_base.specs.Maps.Conjunction.{first, second}
use Rattle.bm_maps.specs.KeyIndex.{key_index, distance_to}
use Rattle.bm_maps.proofs.PutLaws.{key_index-le}
use Rattle.bm_maps.proofs.BinarySearch.{index_behind, index_before}
use Rattle.bm_base.proofs.Orderings.{less_number}

-- what the order of two numbers implies
abbrev OrderImplies : ℕ → ℕ → Ordering → Type 0
OrderImplies a b Less = a ≤ b
OrderImplies a b Equal = a ≤ b
OrderImplies a b Greater = b < a

order_implies_by_tests : (a b : ℕ) (lt eq : Bool) → nat_lt a b ≡ lt → (a == b) ≡ eq → OrderImplies a b (cond lt Less (cond eq Equal Greater))
order_implies_by_tests a b true eq is same = let lt = ltb-true a b is in omega (arith, lt)
order_implies_by_tests a b false true is same = let tie = eqb-true a b same in omega (arith, tie)
order_implies_by_tests a b false false is same = let gt : b < a = grind (arith, nat_tests, is, same) in gt

order_implies : (a b : ℕ) → OrderImplies a b (nat_cmp a b)
order_implies a b = order_implies_by_tests a b (nat_lt a b) (a == b) refl refl

greater : (a b : ℕ) → b < a → nat_cmp a b ≡ Greater
greater a b lt = elim (nat_cmp a b) as (λ r. OrderImplies a b r → r ≡ Greater) [
  | Less ↦ λ le. absurd (omega (arith, le, lt))
  | Equal ↦ λ le. absurd (omega (arith, le, lt))
  | Greater ↦ λ gt. refl
] (order_implies a b)

module _ {X : Type 0} where
  pub index_upto : (k : ℕ) (e : ℕ × X) (es : List (ℕ × X)) → T (is_sorted nat_cmp (e ∷ es)) → key_index nat_cmp k (e ∷ es) ≤ k - e.0
  index_upto k e [] h =
      elim (nat_cmp k e.0) as (λ r. OrderImplies k e.0 r → distance_to r zero ≤ k - e.0) [
        | Less ↦ λ b. omega arith
        | Equal ↦ λ b. omega arith
        | Greater ↦ λ b. let lt : e.0 < k = b in omega (arith, lt)
      ] (order_implies k e.0)
  index_upto k e (f ∷ fs) h =
      let rest : key_index nat_cmp k (f ∷ fs) ≤ k - f.0 = index_upto k f fs (second _ _ h) in
      let rise : e.0 < f.0 = less_number e.0 f.0 (first _ _ (first _ _ h)) in
      elim (nat_cmp k e.0) as (λ r. OrderImplies k e.0 r → distance_to r (key_index nat_cmp k (f ∷ fs)) ≤ k - e.0) [
        | Less ↦ λ b. omega arith
        | Equal ↦ λ b. omega arith
        | Greater ↦ λ b. let lt : e.0 < k = b in omega (arith, lt, rest, rise)
      ] (order_implies k e.0)

  spread : (e : ℕ × X) (es : List (ℕ × X)) (d : ℕ × X) → T (is_sorted nat_cmp (e ∷ es)) → length es + e.0 ≤ (get_or (e ∷ es) (length es) d).0
  spread e [] d h = omega arith
  spread e (f ∷ fs) d h =
      let rest : length fs + f.0 ≤ (get_or (f ∷ fs) (length fs) d).0 = spread f fs d (second _ _ h) in
      let rise : e.0 < f.0 = less_number e.0 f.0 (first _ _ (first _ _ h)) in
      omega (arith, rest, rise)

  pub index_from : (k : ℕ) (e : ℕ × X) (es : List (ℕ × X)) (d : ℕ × X) → T (is_sorted nat_cmp (e ∷ es)) → k ≤ (get_or (e ∷ es) (length es) d).0
      → length es ≤ key_index nat_cmp k (e ∷ es) + ((get_or (e ∷ es) (length es) d).0 - k)
  index_from k e [] d h le = omega arith
  index_from k e (f ∷ fs) d h le =
      let rest : length fs ≤ key_index nat_cmp k (f ∷ fs) + ((get_or (f ∷ fs) (length fs) d).0 - k) = index_from k f fs d (second _ _ h) le in
      let wide : suc (length fs) + e.0 ≤ (get_or (f ∷ fs) (length fs) d).0 = spread e (f ∷ fs) d h in
      elim (nat_cmp k e.0) as (λ r. OrderImplies k e.0 r → suc (length fs) ≤ distance_to r (key_index nat_cmp k (f ∷ fs)) + ((get_or (f ∷ fs) (length fs) d).0 - k)) [
        | Less ↦ λ b. let le : k ≤ e.0 = b in omega (arith, le, wide)
        | Equal ↦ λ b. let le : k ≤ e.0 = b in omega (arith, le, wide)
        | Greater ↦ λ b. omega (arith, rest)
      ] (order_implies k e.0)

  -- the bounds of the index, for reads of the first and of the last entry
  pub upto_read : (k : ℕ) (es : List (ℕ × X)) (d : ℕ × X) → T (is_sorted nat_cmp es) → 0 < length es → key_index nat_cmp k es ≤ k - (get_or es 0 d).0
  upto_read k [] d h some = absurd (omega (arith, some))
  upto_read k (e ∷ es) d h some = index_upto k e es h

  pub from_read : (k : ℕ) (es : List (ℕ × X)) (i : ℕ) (d : ℕ × X) → T (is_sorted nat_cmp es) → i + 1 ≡ length es → k ≤ (get_or es i d).0
      → i ≤ key_index nat_cmp k es + ((get_or es i d).0 - k)
  from_read k [] i d h last le = absurd (omega (arith, last))
  from_read k (e ∷ es) i d h last le =
      let is : length es ≡ i = omega (arith, last) in
      let Goal : ℕ → Type 0 = λ j. k ≤ (get_or (e ∷ es) j d).0 → j ≤ key_index nat_cmp k (e ∷ es) + ((get_or (e ∷ es) j d).0 - k) in
      subst Goal is (index_from k e es d h) le

  -- the index of a key is past all entries if the key is greater than the last one, and not past it
  -- otherwise
  pub past_read : (k : ℕ) (es : List (ℕ × X)) (i : ℕ) (d : ℕ × X) → T (is_sorted nat_cmp es) → i + 1 ≡ length es → (get_or es i d).0 < k → length es ≡ key_index nat_cmp k es
  past_read k es i d h last lt =
      let behind : i < key_index nat_cmp k es = index_behind nat_cmp nat_cmp_total k es i d h (omega (arith, last)) (greater k (get_or es i d).0 lt) in
      let upto : key_index nat_cmp k es ≤ length es = key_index-le nat_cmp k es in
      omega (arith, behind, upto, last)

  pub before_read : (k : ℕ) (es : List (ℕ × X)) (i : ℕ) (d : ℕ × X) → i + 1 ≡ length es → k ≤ (get_or es i d).0 → key_index nat_cmp k es ≤ i
  before_read k es i d last le =
      index_before nat_cmp nat_cmp_total k es i d (omega (arith, last)) (λ gt. let lt : (get_or es i d).0 < k = subst (OrderImplies k (get_or es i d).0) gt (order_implies k (get_or es i d).0) in omega (arith, lt, le))
