-- Elements with different keys, sorted by them, are an ascending list of the same elements.
use Rattle.std.specs.Prelude.{get_or, ◌≡◌, suc, ◌+◌, Bool, true, false, List, [], ◌∷◌, map, T}
use Rattle.std.specs.declared.cmp.Ordering.{Ordering}
use Rattle.std.specs.declared.cmp.Ordering.TheVariants.{Less, Equal, Greater}
use Rattle.std.specs.Ordering.{eq_by_cmp, is_lt, is_eq, ordering_reverse}
use Rattle.std.specs.FinMap.{is_sorted}
use Rattle.std.specs.FinMap.Entries.{below_all}
use Rattle.std.specs.List.{list_any, IsDistinct, AllByRecursion}
use Rattle.std.specs.List.Sorted.{IsSortedByKey}
use Rattle.std.proofs.Common.{sym, ap, ◌∙◌, arith, true≢false}
use Rattle.std.proofs.lemmas.Cmp.{eq_by_cmp_equiv}
use Rattle.std.proofs.lemmas.Map.Keys.{IsDistinct-IsPermutation}
use Rattle.std.proofs.lemmas.List.Sorted.{ranks_by, sorted_far, All-permutation, list_any-IsPermutation}
use Rattle.bm_base.specs.Maps.Conjunction.{both}
use Rattle.bm_base.specs.Maps.Map.{Order}
use Rattle.bm_base.proofs.ForEach.{Each, each_all}
use Rattle.bm_parts.specs.Findings.{IsGathered}
use Rattle.bm_parts.proofs.Filters.{all_each}
use Rattle.bm_round_scan.specs.BlockFindings.{IsInOrder}

-- an order that is neither greater nor equal is less
less_left : (r : Ordering) → is_lt (ordering_reverse r) ≡ false → is_eq r ≡ false → T (is_lt r)
less_left Less e f = tt
less_left Equal e f = absurd (true≢false f)
less_left Greater e f = absurd (true≢false e)

module _ {K X : Type 0} (o : Order K) (key : X → K) where
  abbrev pub tie : X → X → Bool
  tie x y = eq_by_cmp o.cmp (key x) (key y)

  abbrev above : X → X → Bool
  above x y = is_lt (o.cmp (key x) (key y))

  module _ {Y : Type 0} (value : X → Y) where
    below_rest : (x : X) (ys : List X) → Each (λ y. above y x ≡ false) ys → AllByRecursion (λ y. tie x y ≡ false) ys → T (below_all o.cmp (key x) (map (λ y. (key y, value y)) ys))
    below_rest x [] h d = tt
    below_rest x (y ∷ ys) h d = both _ _ (less_left (o.cmp (key x) (key y)) (ap is_lt (sym (o.total.antisymm (key y) (key x))) ∙ h.0) d.0) (below_rest x ys h.1 d.1)

    pub ascends_from : (ys : List X) → IsSortedByKey key o.cmp ys → IsDistinct tie ys → T (is_sorted o.cmp (map (λ y. (key y, value y)) ys))
    unfolding IsDistinct
    ascends_from [] up d = tt
    ascends_from (y ∷ ys) up d =
        both _ _
        (below_rest y ys (each_all (λ z. above z y ≡ false) ys (λ k e lt. sorted_far above (ranks_by o.total key) (y ∷ ys) up 0 (suc k) e (omega arith) (omega (arith, lt)))) d.0)
        (ascends_from ys (λ k e low lt. ap (λ j. above (get_or (y ∷ ys) j e) (get_or ys k e)) (let n : suc (k + 1) ≡ suc k + 1 = omega arith in n) ∙ up (suc k) e (omega arith) (omega (arith, lt))) d.1)

  pub gathered_sorted : (P : X → Type 0) (xs ys : List X) → IsInOrder o key xs ys → IsDistinct tie xs → Each P xs → ((x : X) → P x → list_any (tie x) xs ≡ true) → IsGathered o key P ys
  gathered_sorted P xs ys is d each all = record {
    ascends = ascends_from (λ y. y) ys is.sorted (IsDistinct-IsPermutation tie (λ x y. (eq_by_cmp_equiv o.total).symm (key x) (key y)) xs ys is.permutation d);
    only = All-permutation P xs ys is.permutation (all_each P xs each);
    all = λ x p. sym (list_any-IsPermutation (tie x) xs ys is.permutation) ∙ all x p;
  }
