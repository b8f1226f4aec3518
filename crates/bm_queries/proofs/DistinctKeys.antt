-- A list whose keys all differ is strictly ascending once it is sorted by them.
use Rattle.std.proofs.Common.{◌≡◌, ◌+◌, true, false, List, [], ◌∷◌, ◌++◌, map, length, get_or, Ordering, Less, Equal, Greater, refl, sym, ap, subst, ◌∙◌, arith, T}
use Rattle.std.proofs.lemmas.List.{length-map}
use Rattle.std.specs.Ordering.{eq_by_cmp, is_eq, is_lt, ordering_reverse}
use Rattle.std.specs.Cmp.{eq_by_cmp_equiv}
use Rattle.std.specs.FinMap.{is_sorted}
use Rattle.std.specs.FinMap.Entries.{below_all}
use Rattle.std.specs.List.{IsDistinct, AllByRecursion, list_any}
use Rattle.std.specs.List.Sorted.{IsSortedByKey, IsPermutation, IsStrictlySortedBy}
use Rattle.std.proofs.Math.ListN.{get_or-map}
use Rattle.std.proofs.lemmas.List.Sorted.{IsPermutation-map, All-permutation, list_any-IsPermutation}
use Rattle.std.proofs.lemmas.Map.Keys.{IsDistinct-IsPermutation, apart_from_distinct, sorted_from_all_adjacent}
use Rattle.bm_base.specs.Maps.Conjunction.{both}
use Rattle.bm_base.specs.Maps.Map.{Order}
use Rattle.bm_base.proofs.ForEach.{Each, each_appended}
use Rattle.bm_parts.specs.Findings.{IsGathered}
use Rattle.bm_parts.proofs.EqualLists.{gathered_alike}
use Rattle.bm_parts.proofs.Filters.{all_each}

lesser : (r : Ordering) → is_eq r ≡ false → is_lt (ordering_reverse r) ≡ false → r ≡ Less
lesser Less e f = refl
lesser Equal e f = cc
lesser Greater e f = cc

module _ {K X : Type 0} (o : Order K) (key : X → K) where
  -- none of these has the key of x
  abbrev pub IsNew : X → List X → Type 0
  IsNew x ys = Each (λ y. eq_by_cmp o.cmp (key x) (key y) ≡ false) ys

  -- all keys differ
  abbrev pub AreApart : List X → Type 0
  AreApart [] = Unit {0}
  AreApart (x ∷ xs) = IsNew x xs × AreApart xs

  pub apart_append : (xs ys : List X) → AreApart xs → AreApart ys → Each (λ x. IsNew x ys) xs → AreApart (xs ++ ys)
  apart_append [] ys a b c = b
  apart_append (x ∷ xs) ys a b c = (each_appended (λ y. eq_by_cmp o.cmp (key x) (key y) ≡ false) xs ys a.0 c.0, apart_append xs ys a.1 b c.1)

  new_key : (k : K) (ys : List X) → Each (λ y. eq_by_cmp o.cmp k (key y) ≡ false) ys → AllByRecursion (λ q. eq_by_cmp o.cmp k q ≡ false) (map key ys)
  new_key k [] h = tt
  new_key k (y ∷ ys) h = (h.0, new_key k ys h.1)

  apart_distinct : (xs : List X) → AreApart xs → IsDistinct (eq_by_cmp o.cmp) (map key xs)
  unfolding IsDistinct
  apart_distinct [] h = tt
  apart_distinct (x ∷ xs) h = (new_key (key x) xs h.0, apart_distinct xs h.1)

  strictly : (xs : List X) → IsSortedByKey key o.cmp xs → IsDistinct (eq_by_cmp o.cmp) (map key xs) → IsStrictlySortedBy o.cmp (map key xs)
  unfolding IsStrictlySortedBy
  strictly [] sorted distinct = tt
  strictly (y ∷ ys) sorted distinct = strictly_from (y ∷ ys) y sorted distinct
    where
      strictly_from : (xs : List X) (y : X) → IsSortedByKey key o.cmp xs → IsDistinct (eq_by_cmp o.cmp) (map key xs) → IsStrictlySortedBy o.cmp (map key xs)
      strictly_from xs y sorted distinct =
          sorted_from_all_adjacent o.total (map key xs) (key y) (λ k lt.
          let long : length (map key xs) ≡ length xs = length-map xs key in
          let at : get_or (map key xs) k (key y) ≡ key (get_or xs k y) = get_or-map key xs k y in
          let next : get_or (map key xs) (k + 1) (key y) ≡ key (get_or xs (k + 1) y) = get_or-map key xs (k + 1) y in
          lesser (o.cmp (get_or (map key xs) k (key y)) (get_or (map key xs) (k + 1) (key y)))
          (apart_from_distinct (eq_by_cmp o.cmp) (map key xs) k (k + 1) (key y) distinct (omega arith) lt)
          ((λ i. is_lt (ordering_reverse (o.cmp (at i) (next i)))) ∙ ap is_lt (sym (o.total.antisymm (key (get_or xs (k + 1) y)) (key (get_or xs k y)))) ∙ sorted k y (omega arith) (omega (arith, lt, long))))

  below : (k : K) (ys : List X) → AllByRecursion (λ z. o.cmp k z ≡ Less) (map key ys) → T (below_all o.cmp k (map (λ y. (key y, y)) ys))
  below k [] h = tt
  below k (y ∷ ys) h = both _ _ (subst T (sym (ap is_lt h.0)) tt) (below k ys h.1)

  keyed_ascend : (xs : List X) → IsStrictlySortedBy o.cmp (map key xs) → T (is_sorted o.cmp (map (λ x. (key x, x)) xs))
  unfolding IsStrictlySortedBy
  keyed_ascend [] h = tt
  keyed_ascend (x ∷ xs) h = both _ _ (below (key x) xs h.0) (keyed_ascend xs h.1)

  -- a list with different keys is strictly ascending once it is sorted
  pub sorted_ascends : (xs ys : List X) → AreApart xs → IsPermutation xs ys → IsSortedByKey key o.cmp ys → T (is_sorted o.cmp (map (λ y. (key y, y)) ys))
  sorted_ascends xs ys apart moved sorted =
      keyed_ascend ys (strictly ys sorted (IsDistinct-IsPermutation (eq_by_cmp o.cmp) (eq_by_cmp_equiv o.total).symm (map key xs) (map key ys) (IsPermutation-map key xs ys moved) (apart_distinct xs apart)))

  -- such a list of all elements with a property, of which a key determines one, sorted
  pub sorted_alike : (P : X → Type 0) → ((x y : X) → P x → P y → key x ≡ key y → x ≡ y) → (xs ys zs : List X) → AreApart xs → Each P xs → ((x : X) → P x → list_any (λ y. eq_by_cmp o.cmp (key x) (key y)) xs ≡ true) → IsPermutation xs ys
      → IsSortedByKey key o.cmp ys → IsGathered o key P zs → ys ≡ zs
  sorted_alike P one xs ys zs apart only all moved sorted listed = gathered_alike o key P one ys zs (record {
    ascends = sorted_ascends xs ys apart moved sorted;
    only = All-permutation P xs ys moved (all_each P xs only);
    all = λ x is. sym (list_any-IsPermutation (λ y. eq_by_cmp o.cmp (key x) (key y)) xs ys moved) ∙ all x is;
  }) listed
