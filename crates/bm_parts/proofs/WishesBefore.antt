-- Merging the wishes of parts that come before a bound gives the merged wishes before it.
use Rattle.std.proofs.Common.{◌≡◌, ℕ, Bool, true, false, cond, List, [], ◌∷◌, ◌++◌, map, filter, flat_map, Option, Some, None, refl, sym, ap, ◌∙◌, true≢false, T}
use Rattle.std.specs.Prelude.{option_and_then}
use Rattle.std.specs.Ordering.{eq_by_cmp}
use Rattle.std.specs.FinMap.{is_sorted}
use Rattle.std.specs.FinMap.Entries.{below_all}
use Rattle.std.proofs.lemmas.List.Elements.{filter-append}
use Rattle.bm_base.specs.declared.round.RoundPart.{RoundPart}
use Rattle.bm_base.specs.declared.round.Wish.{Wish}
use Rattle.bm_base.specs.Maps.Conjunction.{both, first, second}
use Rattle.bm_base.specs.Maps.Map.{Order, Map, get, empty, entries, insert, insert_all, keep}
use Rattle.bm_base.specs.Ordered.{pair_cmp, by_pair, ordered_by}
use Rattle.bm_base.specs.RoundParts.{wish_key}
use Rattle.bm_base.specs.Choices.{merged_wishes}
use Rattle.bm_base.proofs.ForEach.{Each, each_then}
use Rattle.bm_base.proofs.MapLaws.{same_map, get-keep, get-insert, get-empty, entries-keep}
use Rattle.bm_base.proofs.MapEntries.{same_key, each_entry, holds_insert_all}
use Rattle.bm_parts.proofs.KeepLaws.{keep-insert}
use Rattle.bm_parts.specs.BoundedWishes.{is_before, wishes_before, part_before}
use Rattle.bm_parts.proofs.Filters.{filtered_alike, map_filter}

-- A list that is ascending by keys stays so if some elements are left out.

module _ {K X : Type 0} (o : Order K) (key : X → K) (q : K → Bool) where
  abbrev passing : X → Bool
  passing x = q (key x)

  below_still : (k : K) (xs : List X) → T (below_all o.cmp k (map (λ x. (key x, x)) xs)) → T (below_all o.cmp k (map (λ x. (key x, x)) (filter passing xs)))
  below_still k [] h = tt
  below_still k (x ∷ xs) h = by (passing x) (below_still k xs (second _ _ h))
    where
      by : (t : Bool) → T (below_all o.cmp k (map (λ x. (key x, x)) (filter passing xs))) → T (below_all o.cmp k (map (λ x. (key x, x)) (cond t (x ∷ filter passing xs) (filter passing xs))))
      by true rest = both _ _ (first _ _ h) rest
      by false rest = rest

  pub ascends_still : (xs : List X) → T (is_sorted o.cmp (map (λ x. (key x, x)) xs)) → T (is_sorted o.cmp (map (λ x. (key x, x)) (filter passing xs)))
  ascends_still [] h = tt
  ascends_still (x ∷ xs) h = by (passing x) (ascends_still xs (second _ _ h))
    where
      by : (t : Bool) → T (is_sorted o.cmp (map (λ x. (key x, x)) (filter passing xs))) → T (is_sorted o.cmp (map (λ x. (key x, x)) (cond t (x ∷ filter passing xs) (filter passing xs))))
      by true rest = both _ _ (below_still (key x) xs (first _ _ h)) rest
      by false rest = rest

-- Sorting the elements whose keys pass gives the sorted elements whose keys pass.

module _ {X : Type 0} (key : X → ℕ × ℕ) (q : ℕ × ℕ → Bool) where
  abbrev passes : X → Bool
  passes x = q (key x)

  abbrev left : Map by_pair X → Map by_pair X
  left m = keep m (λ k _. q k)

  none_left : (b : Bool) (v : Option X) → b ≡ false → option_and_then (λ x. cond b (Some x) None) v ≡ None
  none_left false None e = refl
  none_left false (Some x) e = refl
  none_left true v e = absurd (true≢false e)

  left_out : (m : Map by_pair X) (k : ℕ × ℕ) (v : X) → q k ≡ false → left (insert m k v) ≡ left m
  left_out m k v out =
      same_map (left (insert m k v)) (left m) (λ j.
      get-keep (insert m k v) (λ k _. q k) j ∙ ap (option_and_then (λ x. cond (q j) (Some x) None)) (get-insert m k v j) ∙ by j (eq_by_cmp pair_cmp j k) refl ∙ sym (get-keep m (λ k _. q k) j))
    where
      by : (j : ℕ × ℕ) (t : Bool) → eq_by_cmp pair_cmp j k ≡ t → option_and_then (λ x. cond (q j) (Some x) None) (cond t (Some v) (get m j)) ≡ option_and_then (λ x. cond (q j) (Some x) None) (get m j)
      by j false is = refl
      by j true is = let none = ap q (same_key by_pair j k is) ∙ out in none_left (q j) (Some v) none ∙ sym (none_left (q j) (get m j) none)

  left_of_all : (m : Map by_pair X) (xs : List X) → left (insert_all m (map (λ x. (key x, x)) xs)) ≡ insert_all (left m) (map (λ x. (key x, x)) (filter passes xs))
  left_of_all m [] = refl
  left_of_all m (x ∷ xs) = left_of_all (insert m (key x) x) xs ∙ by (q (key x)) refl
    where
      by : (t : Bool) → q (key x) ≡ t → insert_all (left (insert m (key x) x)) (map (λ x. (key x, x)) (filter passes xs)) ≡ insert_all (left m) (map (λ x. (key x, x)) (cond t (x ∷ filter passes xs) (filter passes xs)))
      by true is = ap (λ n. insert_all n (map (λ x. (key x, x)) (filter passes xs))) (keep-insert m (λ k _. q k) (key x) x is)
      by false is = ap (λ n. insert_all n (map (λ x. (key x, x)) (filter passes xs))) (left_out m (key x) x is)

  none_yet : left empty ≡ empty
  none_yet = same_map (left empty) empty (λ j. get-keep empty (λ k _. q k) j ∙ ap (option_and_then (λ x. cond (q j) (Some x) None)) (get-empty by_pair j) ∙ sym (get-empty by_pair j))

  abbrev all_of : List X → Map by_pair X
  all_of xs = insert_all (empty {X = X} {o = by_pair}) (map (λ x. (key x, x)) xs)

  own_keys : (xs : List X) → Each (λ (e : (ℕ × ℕ) × X). key e.1 ≡ e.0) (map (λ x. (key x, x)) xs)
  own_keys [] = tt
  own_keys (x ∷ xs) = (refl, own_keys xs)

  each_key : (xs : List X) → Each (λ (e : (ℕ × ℕ) × X). key e.1 ≡ e.0) (entries (all_of xs))
  each_key xs =
      each_then (λ e. get (all_of xs) e.0 ≡ Some e.1) (λ e. key e.1 ≡ e.0) (entries (all_of xs)) (each_entry (all_of xs))
      (λ e is. holds_insert_all (λ k x. key x ≡ k) empty (map (λ x. (key x, x)) xs) (λ k x here. none (get-empty by_pair k) here) (own_keys xs) e.0 e.1 is)
    where
      none : {o : Option X} {x : X} {P : Type 0} → o ≡ None → o ≡ Some x → P
      none e f = cc

  pub left_in_order : (xs : List X) → filter passes (ordered_by by_pair key xs) ≡ ordered_by by_pair key (filter passes xs)
  unfolding ordered_by
  left_in_order xs =
      map_filter (λ (e : (ℕ × ℕ) × X). e.1) passes (entries (all_of xs))
      ∙ ap (map (λ (e : (ℕ × ℕ) × X). e.1))
      (filtered_alike (λ (e : (ℕ × ℕ) × X). passes e.1) (λ e. q e.0) (entries (all_of xs)) (each_then (λ (e : (ℕ × ℕ) × X). key e.1 ≡ e.0) (λ e. passes e.1 ≡ q e.0) (entries (all_of xs)) (each_key xs) (λ e is. ap q is))
      ∙ sym (entries-keep by_pair (all_of xs) (λ k _. q k)) ∙ ap entries (left_of_all empty xs ∙ ap (λ m. insert_all m (map (λ x. (key x, x)) (filter passes xs))) none_yet))

-- The wishes of parts.

wishes_cut : (bound : Option (ℕ × ℕ)) (ps : List RoundPart) → flat_map (λ (p : RoundPart). p.wishes) (map (part_before bound) ps) ≡ wishes_before bound (flat_map (λ (p : RoundPart). p.wishes) ps)
wishes_cut bound [] = refl
wishes_cut bound (p ∷ ps) =
    ap (λ ws. wishes_before bound p.wishes ++ ws) (wishes_cut bound ps)
    ∙ sym (filter-append (λ (w : Wish). is_before bound (wish_key w)) p.wishes (flat_map (λ (p : RoundPart). p.wishes) ps))

-- the parts' wishes before a bound, merged, are the merged wishes before it
pub merged_before : (bound : Option (ℕ × ℕ)) (ps : List RoundPart) → merged_wishes (map (part_before bound) ps) ≡ wishes_before bound (merged_wishes ps)
unfolding merged_wishes
merged_before bound ps = ap (ordered_by by_pair wish_key) (wishes_cut bound ps) ∙ sym (left_in_order wish_key (is_before bound) (flat_map (λ (p : RoundPart). p.wishes) ps))
