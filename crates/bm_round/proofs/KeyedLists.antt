-- Merged wishes ascend by key, and the sorted wishes and deletes of a single part stay as they are.
use Rattle.std.proofs.Common.{◌≡◌, ℕ, List, [], ◌∷◌, map, flat_map, length, get_or, refl, sym, ap, subst, ◌∙◌, append-nil, arith, T}
use Rattle.std.specs.FinMap.{is_sorted}
use Rattle.std.proofs.lemmas.List.Sorted.{IsPermutation-refl}
use Rattle.std.specs.Prelude.{Some}
use Rattle.bm_base.specs.Maps.Map.{Map, Order, entries, empty, get, insert_all}
use Rattle.bm_base.specs.declared.round.RoundPart.{RoundPart}
use Rattle.bm_base.specs.Ordered.{pair_cmp, by_pair, ordered_by}
use Rattle.bm_base.specs.RoundParts.{wish_key, delete_key}
use Rattle.bm_base.specs.Choices.{merged_wishes, merged_deletes}
use Rattle.bm_base.proofs.ForEach.{Each, each_then}
use Rattle.bm_base.proofs.MapEntries.{Holds, holds_insert_all, each_entry}
use Rattle.bm_base.proofs.MapLaws.{get-empty}
use Rattle.bm_parts.specs.SortedLists.{AreSorted}
use Rattle.bm_parts.proofs.SortedLists.{sorted_is_ordered}
use Rattle.bm_round.specs.KeyedParts.{keyed_wish, keyed_wishes, keyed_deletes}

-- A list in the order of its keys is ascending in them.

module _ {K X : Type 0} (o : Order K) (key : X → K) where
  abbrev HasItsKey : K → X → Type 0
  HasItsKey k x = key x ≡ k

  each_key : (xs : List X) → Each (λ (e : K × X). HasItsKey e.0 e.1) (map (λ x. (key x, x)) xs)
  each_key [] = tt
  each_key (x ∷ xs) = (refl, each_key xs)

  keys_again : (es : List (K × X)) → Each (λ (e : K × X). HasItsKey e.0 e.1) es → map (λ x. (key x, x)) (map (λ (e : K × X). e.1) es) ≡ es
  keys_again [] each = refl
  keys_again (e ∷ es) each = λ i. (each.0 i, e.1) ∷ keys_again es each.1 i

  none_held : Holds HasItsKey (empty {X = X} {o = o})
  none_held q x e = cc (sym (get-empty {X = X} o q) ∙ e)

  list_sorted : (m : Map o X) → T (is_sorted o.cmp (entries m))
  unfolding entries
  list_sorted m = m.sorted

  pub ordered_ascends : (xs : List X) → T (is_sorted o.cmp (map (λ x. (key x, x)) (ordered_by o key xs)))
  unfolding ordered_by
  ordered_ascends xs =
      let m : Map o X = insert_all (empty {X = X} {o = o}) (map (λ x. (key x, x)) xs) in
      let held : Holds HasItsKey m = holds_insert_all HasItsKey (empty {X = X} {o = o}) (map (λ x. (key x, x)) xs) none_held (each_key xs) in
      let each : Each (λ (e : K × X). HasItsKey e.0 e.1) (entries m) =
      each_then (λ (e : K × X). get m e.0 ≡ Some e.1) (λ (e : K × X). HasItsKey e.0 e.1) (entries m) (each_entry m) (λ e is. held e.0 e.1 is) in
      subst (λ es. T (is_sorted o.cmp es)) (sym (keys_again (entries m) each)) (list_sorted m)

pub merged_wishes_ascend : (ps : List RoundPart) → T (is_sorted pair_cmp (map keyed_wish (merged_wishes ps)))
unfolding merged_wishes
merged_wishes_ascend ps = ordered_ascends by_pair wish_key (flat_map (λ p. p.wishes) ps)

-- the merged deletes of a single part are its deletes, if they are sorted
pub deletes_alone_are : (ps : List RoundPart) (p : RoundPart) → length ps ≡ 1 → AreSorted (map keyed_deletes ps) → (get_or ps 0 p).deletes ≡ merged_deletes ps
unfolding merged_deletes
deletes_alone_are [] p one sorted = absurd (omega (arith, one))
deletes_alone_are (q ∷ []) p one sorted = sym (ap (ordered_by by_pair delete_key) (append-nil q.deletes) ∙ sorted_is_ordered (ℕ × ℕ) _ by_pair delete_key q.deletes q.deletes sorted.0 (IsPermutation-refl q.deletes))
deletes_alone_are (q ∷ r ∷ ps) p one sorted = absurd (omega (arith, one))

-- the merged wishes of a single part are its wishes, if they are sorted
pub wishes_alone_are : (ps : List RoundPart) (p : RoundPart) → length ps ≡ 1 → AreSorted (map keyed_wishes ps) → (get_or ps 0 p).wishes ≡ merged_wishes ps
unfolding merged_wishes
wishes_alone_are [] p one sorted = absurd (omega (arith, one))
wishes_alone_are (q ∷ []) p one sorted = sym (ap (ordered_by by_pair wish_key) (append-nil q.wishes) ∙ sorted_is_ordered (ℕ × ℕ) _ by_pair wish_key q.wishes q.wishes sorted.0 (IsPermutation-refl q.wishes))
wishes_alone_are (q ∷ r ∷ ps) p one sorted = absurd (omega (arith, one))
