-- Entries that come after all entries of a map, and lists of ascending numbers.
use Rattle.std.proofs.Common.{◌≡◌, ℕ, ◌<◌, true, ◌&&◌, Less, List, [], ◌∷◌, ◌++◌, map, Option, Some, refl, sym, ap, subst, ◌∙◌, T, lt-ltb}
use Rattle.std.specs.Ordering.{is_lt, nat_cmp}
use Rattle.std.specs.Cmp.{nat_cmp_is}
use Rattle.std.specs.FinMap.{is_sorted}
use Rattle.std.specs.FinMap.Entries.{below_all}
use Rattle.std.proofs.lemmas.Bool.{and_parts}
use Rattle.bm_base.specs.Words.{Map, Order, by_number, entries, empty, insert_all, keys, distinct}
use Rattle.bm_base.specs.Maps.Conjunction.{both, first, second}
use Rattle.bm_base.proofs.ForEach.{Each}
use Rattle.bm_base.proofs.Sets.{AreAlike, distinct_alike}
use Rattle.bm_parts.proofs.JoinedShares.{own_entries}
use Rattle.bm_saved.specs.Faults.{is_above, ascend_above, ascend}
use Rattle.bm_saved.proofs.Checks.{map_twice, all_greater, unbounded}
use Rattle.bm_saved.proofs.RestoredHoldings.{insert_all-append}

module _ {K X : Type 0} (o : Order K) where
  -- sorted entries are those of their map
  pub sorted_again : (es : List (K × X)) → T (is_sorted o.cmp es) → entries (insert_all (empty {o = o}) es) ≡ es
  unfolding entries
  sorted_again es h = let m : Map o X = record { list = es; sorted = h } in ap entries (own_entries m)

  sorted_is : (m : Map o X) → T (is_sorted o.cmp (entries m))
  unfolding entries
  sorted_is m = m.sorted

  pub below_each : (k : K) (es : List (K × X)) → Each (λ e. T (is_lt (o.cmp k e.0))) es → T (below_all o.cmp k es)
  below_each k [] each = tt
  below_each k (e ∷ es) each = both _ _ each.0 (below_each k es each.1)

  below_append : (k : K) (xs ys : List (K × X)) → T (below_all o.cmp k xs) → T (below_all o.cmp k ys) → T (below_all o.cmp k (xs ++ ys))
  below_append k [] ys a b = b
  below_append k (x ∷ xs) ys a b = both _ _ (first _ _ a) (below_append k xs ys (second _ _ a) b)

  sorted_append : (xs ys : List (K × X)) → T (is_sorted o.cmp xs) → T (is_sorted o.cmp ys) → Each (λ x. T (below_all o.cmp x.0 ys)) xs → T (is_sorted o.cmp (xs ++ ys))
  sorted_append [] ys a b low = b
  sorted_append (x ∷ xs) ys a b low = both _ _ (below_append x.0 xs ys (first _ _ a) low.0) (sorted_append xs ys (second _ _ a) b low.1)

  -- entries after all of a map come last
  pub entries_after : (m : Map o X) (es : List (K × X)) → T (is_sorted o.cmp es) → Each (λ x. T (below_all o.cmp x.0 es)) (entries m) → entries (insert_all m es) ≡ entries m ++ es
  entries_after m es h low =
      ap (λ n. entries (insert_all n es)) (sym (own_entries m)) ∙ ap entries (sym (insert_all-append (empty {o = o}) (entries m) es))
      ∙ sorted_again (entries m ++ es) (sorted_append (entries m) es (sorted_is m) h low)

-- Numbers.

pub less_by_number : (a b : ℕ) → a < b → T (is_lt (nat_cmp a b))
less_by_number a b less = subst (λ r. T (is_lt r)) (nat_cmp_is a b Less less) tt

sorted_numbers : (xs : List ℕ) → ascend xs ≡ true → T (is_sorted nat_cmp (map (λ x. (x, tt {0})) xs))
sorted_numbers [] up = tt
sorted_numbers (x ∷ xs) up = both _ _ (below xs (all_greater x xs up)) (sorted_numbers xs (unbounded (Some x) xs up))
  where
    below : (ys : List ℕ) → Each (λ y. x < y) ys → T (below_all nat_cmp x (map (λ y. (y, tt {0})) ys))
    below [] each = tt
    below (y ∷ ys) each = both _ _ (less_by_number x y each.0) (below ys each.1)

pub same_list : {X : Type 0} (xs : List X) → map (λ (x : X). x) xs ≡ xs
same_list [] = refl
same_list (x ∷ xs) = ap (λ ys. x ∷ ys) (same_list xs)

once_each : (xs : List ℕ) → ascend xs ≡ true → distinct xs ≡ xs
unfolding distinct keys
once_each xs up = ap (map (λ e. e.0)) (sorted_again by_number (map (λ x. (x, tt {0})) xs) (sorted_numbers xs up)) ∙ map_twice (λ e. e.0) (λ x. (x, tt {0})) xs ∙ same_list xs

-- ascending lists with the same numbers are equal
pub same_ascending : (xs ys : List ℕ) → ascend xs ≡ true → ascend ys ≡ true → AreAlike xs ys → xs ≡ ys
same_ascending xs ys a b alike = sym (once_each xs a) ∙ distinct_alike xs ys alike ∙ once_each ys b

-- a greater number may follow
pub ascend_to : (last : Option ℕ) (xs : List ℕ) (y : ℕ) → ascend_above last xs ≡ true → is_above last y ≡ true → Each (λ x. x < y) xs → ascend_above last (xs ++ (y ∷ [])) ≡ true
ascend_to last [] y up above each = ap (λ b. b && true) above
ascend_to last (x ∷ xs) y up above each =
    let p = and_parts (is_above last x) (ascend_above (Some x) xs) up in
    (λ i. p.0 i && ascend_to (Some x) xs y p.1 (lt-ltb x y each.0) each.1 i)
