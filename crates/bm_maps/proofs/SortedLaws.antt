-- Putting an entry into a sorted vector, or filtering it, keeps it sorted and does so to its map.
use Rattle.std.specs.Prelude.{◌≡◌, Bool, List, T}
use Rattle.std.specs.FinMap.{put, is_sorted}
use Rattle.std.specs.FinMap.Entries.{is_sorted-put}
use Rattle.std.specs.List.Retain.{IsFiltered}
use Rattle.std.proofs.Common.{sym, ap, subst, ◌∙◌}
use Rattle.bm_base.specs.Maps.Map.{Map, Order, entries, insert}
use Rattle.bm_base.specs.Maps.MapCode.{same_entries_map}
use Rattle.bm_base.specs.Maps.OfSorted.{of_sorted}
use Rattle.bm_base.proofs.OfSorted.{entries-of_sorted, list-of_sorted}
use Rattle.bm_base.proofs.MapLaws.{is_sorted-items_where_true}

module _ {K X : Type 0} (o : Order K) where
  of_sorted-put : (es : List (K × X)) (k : K) (v : X) → T (is_sorted o.cmp es) → of_sorted {o = o} (put o.cmp k v es) ≡ insert (of_sorted es) k v
  unfolding insert
  of_sorted-put es k v h = same_entries_map _ _ (list-of_sorted o (put o.cmp k v es) (is_sorted-put o.cmp o.total k v es h) ∙ ap (put o.cmp k v) (sym (list-of_sorted o es h)))

  -- a list that was changed by `put` is still sorted
  pub sorted_by-put : (es fs : List (K × X)) (k : K) (v : X) → fs ≡ put o.cmp k v es → T (is_sorted o.cmp es) → T (is_sorted o.cmp fs)
  sorted_by-put es fs k v e h = subst (λ xs. T (is_sorted o.cmp xs)) (sym e) (is_sorted-put o.cmp o.total k v es h)

  pub insert_by-put : (es fs : List (K × X)) (k : K) (v : X) (m : Map o X) → fs ≡ put o.cmp k v es → T (is_sorted o.cmp es) → of_sorted es ≡ m → of_sorted fs ≡ insert m k v
  insert_by-put es fs k v m e h is = ap (of_sorted {o = o}) e ∙ of_sorted-put es k v h ∙ ap (λ n. insert n k v) is

  pub entries_shown : (es : List (K × X)) (m : Map o X) → T (is_sorted o.cmp es) → of_sorted es ≡ m → entries m ≡ es
  entries_shown es m h is = ap entries (sym is) ∙ entries-of_sorted o es h

  pub sorted_by-filtered : {P : Type 0} (R : P → K × X → Bool → P → Type 0) (f : P) (es fs : List (K × X)) → IsFiltered R f es fs → T (is_sorted o.cmp es) → T (is_sorted o.cmp fs)
  sorted_by-filtered R f es fs facts h = subst (λ xs. T (is_sorted o.cmp xs)) (sym facts.4) (is_sorted-items_where_true o.cmp facts.0 es h)

  pub filtered_shown : {P : Type 0} (R : P → K × X → Bool → P → Type 0) (f : P) (es fs : List (K × X)) (m : Map o X) → T (is_sorted o.cmp es) → of_sorted es ≡ m
      → IsFiltered R f es fs → IsFiltered R f (entries m) (entries (of_sorted {o = o} fs))
  filtered_shown R f es fs m h is facts =
      let from : es ≡ entries m = sym (entries_shown es m h is) in
      let to : fs ≡ entries (of_sorted {o = o} fs) = sym (entries-of_sorted o fs (sorted_by-filtered R f es fs facts h)) in
      subst (λ xs. IsFiltered R f xs (entries (of_sorted {o = o} fs))) from (subst (λ ys. IsFiltered R f es ys) to facts)
