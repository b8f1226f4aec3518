-- A permutation of a list with strictly ascending keys is that list in the order of its keys.
use Rattle.std.proofs.Common.{◌≡◌, Some, List, map, sym, ap, subst, ◌∙◌, T}
use Rattle.std.specs.Ordering.{eq_by_cmp}
use Rattle.std.specs.FinMap.{is_sorted}
use Rattle.std.specs.List.{list_any}
use Rattle.std.specs.List.Sorted.{IsPermutation}
use Rattle.std.proofs.lemmas.List.Sorted.{All-permutation, IsPermutation-sym, IsPermutation-map, list_any-IsPermutation}
use Rattle.bm_base.specs.Maps.Map.{Map, Order, get, entries}
use Rattle.bm_base.specs.Maps.OfSorted.{of_sorted}
use Rattle.bm_base.proofs.OfSorted.{entries-of_sorted}
use Rattle.bm_base.specs.Ordered.{ordered_by}
use Rattle.bm_base.proofs.ForEach.{Each, each_all}
use Rattle.bm_base.proofs.MapEntries.{key_itself, each_entry, passes_entry}
use Rattle.bm_parts.proofs.Filters.{all_each}
use Rattle.bm_parts.proofs.JoinedShares.{gathered, values_again}

-- a permutation with strictly ascending keys is the list in the order of its keys
pub sorted_is_ordered : (K X : Type 0) (o : Order K) (key : X → K) (xs ys : List X) → T (is_sorted o.cmp (map (λ y. (key y, y)) ys)) → IsPermutation xs ys → ordered_by o key xs ≡ ys
unfolding ordered_by
sorted_is_ordered K X o key xs ys ascends moved =
    let keyed : X → K × X = λ x. (key x, x) in
    let m : Map o X = of_sorted (map keyed ys) in
    let found : K × X → Type 0 = λ e. get m e.0 ≡ Some e.1 in
    let es : entries m ≡ map keyed ys = entries-of_sorted o (map keyed ys) ascends in
    let moved_keyed : IsPermutation (map keyed xs) (map keyed ys) = IsPermutation-map keyed xs ys moved in
    let from_ys : Each found (map keyed ys) = subst (Each found) es (each_entry m) in
    let from_xs : Each found (map keyed xs) =
    each_all found (map keyed xs) (All-permutation found (map keyed ys) (map keyed xs) (IsPermutation-sym (map keyed xs) (map keyed ys) moved_keyed) (all_each found (map keyed ys) from_ys)) in
    ap (λ w. map (λ (e : K × X). e.1) (entries w))
    (gathered m (map keyed xs) from_xs (λ q x e.
    list_any-IsPermutation (λ (f : K × X). eq_by_cmp o.cmp q f.0) (map keyed xs) (map keyed ys) moved_keyed
    ∙ ap (list_any (λ (f : K × X). eq_by_cmp o.cmp q f.0)) (sym es) ∙ passes_entry m (λ f. eq_by_cmp o.cmp q f.0) q x e (key_itself o q)))
    ∙ ap (map (λ (e : K × X). e.1)) es ∙ values_again o key ys
