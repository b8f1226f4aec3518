-- Each change of a `BTreeMap` changes the map that it represents in the same way.
--     length-tree              the number of entries
--     inserted, removed        a value was set at a key, or a key removed
--     kept                     the entries that pass a test were kept
use Rattle.std.proofs.Common.{◌≡◌, Bool, cond, List, [], ◌∷◌, filter, Option, Some, None, T, refl, sym, ap, subst, ◌∙◌, Ordering, Less}
use Rattle.std.specs.Ordering.{eq_by_cmp, is_eq, is_lt}
use Rattle.std.specs.Cmp.{eq_by_cmp_equiv}
use Rattle.std.specs.List.{AllByRecursion}
use Rattle.std.specs.List.Sorted.{IsStrictlySortedBy}
use Rattle.std.specs.FinMap.{find, is_sorted}
use Rattle.std.specs.FinMap.Entries.{below_all}
use Rattle.std.specs.Map.{keys_of, lookup}
use Rattle.std.specs.Map.Calls.{RetainsPairs}
use Rattle.std.proofs.lemmas.Map.Made.{filter_same_pairs}
use Rattle.std.specs.BTreeMap as tree
use Rattle.std.specs.BTreeMap.{BTreeMap, IsOrdered, Updates, is_at, btree_map_len}
use Rattle.bm_base.specs.Maps.Conjunction.{both}
use Rattle.bm_base.specs.Maps.Map.{Map, Order, entries, get, insert, remove, keep, len}
use Rattle.bm_base.specs.Maps.OfSorted.{of_sorted}
use Rattle.bm_base.proofs.OfSorted.{entries-of_sorted, get-of_sorted, len-of_sorted}
use Rattle.bm_base.proofs.MapLaws.{same_map, get-insert, get-remove, keep-filter}

module _ {K X : Type 0} (R : K → K → Ordering) where
  below : (x : K) (es : List (K × X)) → AllByRecursion (λ y. R x y ≡ Less) (keys_of es) → T (below_all R x es)
  below x [] h = tt
  below x (e ∷ es) h = both _ _ (subst (λ r. T (is_lt r)) (sym h.0) tt) (below x es h.1)

  sorted : (es : List (K × X)) → IsStrictlySortedBy R (keys_of es) → T (is_sorted R es)
  unfolding IsStrictlySortedBy
  sorted [] h = tt
  sorted (e ∷ es) h = both _ _ (below e.0 es h.0) (sorted es h.1)

  found : (q : K) (es : List (K × X)) → find R q es ≡ lookup (is_at (R q)) es
  found q [] = refl
  found q (e ∷ es) = ap (cond (is_eq (R q e.0)) (Some e.1)) (found q es)

module _ {K X : Type 0} (o : Order K) (old : BTreeMap K X) (m : Map o X) (is : of_sorted old.entries ≡ m) (ordered : IsOrdered o.cmp old) where
  pub length-tree : btree_map_len old ≡ len m
  length-tree = sym (len-of_sorted o old.entries (sorted o.cmp old.entries ordered)) ∙ ap len is

  get-tree : (q : K) → tree.get o.cmp old q ≡ get m q
  get-tree q = sym (found o.cmp q old.entries) ∙ sym (get-of_sorted o old.entries q (sorted o.cmp old.entries ordered)) ∙ ap (λ n. get n q) is

  module _ (new : BTreeMap K X) (ordered_new : IsOrdered o.cmp new) where
    get-changed : (k : K) (v : Option X) → Updates o.cmp old new k v → (q : K) → get (of_sorted {o = o} new.entries) q ≡ cond (eq_by_cmp o.cmp q k) v (get m q)
    get-changed k v facts q =
        get-of_sorted o new.entries q (sorted o.cmp new.entries ordered_new)
        ∙ found o.cmp q new.entries
        ∙ facts.0 q
        ∙ ap (λ b. cond b v (tree.get o.cmp old q)) ((eq_by_cmp_equiv o.total).symm k q)
        ∙ ap (cond (eq_by_cmp o.cmp q k) v) (get-tree q)

    pub inserted : (k : K) (v : X) → Updates o.cmp old new k (Some v) → of_sorted {o = o} new.entries ≡ insert m k v
    inserted k v facts = same_map _ _ (λ q. get-changed k (Some v) facts q ∙ sym (get-insert m k v q))

    pub removed : (k : K) → Updates o.cmp old new k None → of_sorted {o = o} new.entries ≡ remove m k
    removed k facts = same_map _ _ (λ q. get-changed k None facts q ∙ sym (get-remove m k q))

    pub kept : (p : K → X → Bool) {F : Type 0} (T : F → K → X → Bool → X → F → Type 0) (f : F)
        → ((k : K) (v : X) (b : Bool) (w : X) (g : F) → T f k v b w g → (b ≡ p k v) × (w ≡ v) × (g ≡ f)) → RetainsPairs T f old.entries new.entries → of_sorted {o = o} new.entries ≡ keep m p
    kept p T f calls facts =
        keep-filter o m _ p
        (entries-of_sorted o new.entries (sorted o.cmp new.entries ordered_new)
        ∙ filter_same_pairs T (λ e. p e.0 e.1) f calls old.entries new.entries facts
        ∙ ap (filter (λ e. p e.0 e.1)) (sym (entries-of_sorted o old.entries (sorted o.cmp old.entries ordered)) ∙ ap entries is))
