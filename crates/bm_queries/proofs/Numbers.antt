-- An ascending list is determined by its members, if each occurs once.
use Rattle.std.proofs.Common.{◌≡◌, ℕ, Bool, true, false, cond, List, [], ◌∷◌, map, filter, Ordering, refl, inl, inr, ◌∙◌, T}
use Rattle.std.specs.Prelude.{◌==◌}
use Rattle.std.specs.Ordering.{nat_cmp, eq_by_cmp, is_lt}
use Rattle.std.specs.FinMap.{is_sorted}
use Rattle.std.specs.FinMap.Entries.{below_all}
use Rattle.std.specs.List.{list_any}
use Rattle.std.specs.List.Sorted.{IsSortedByKey, IsPermutation}
use Rattle.std.proofs.lemmas.Bool.{or_left, or_right}
use Rattle.bm_base.specs.Maps.Conjunction.{both, first, second}
use Rattle.bm_base.specs.Words.{by_number, has}
use Rattle.bm_maps.specs.SlotLists.{IsMember, Distinct}
use Rattle.bm_base.proofs.Clusters.{eqb_turned}
use Rattle.bm_base.proofs.ForEach.{Each}
use Rattle.bm_base.proofs.ListTests.{any_agree, same_again}
use Rattle.bm_base.proofs.MapEntries.{not_tied}
use Rattle.bm_base.proofs.Ties.{number_tie}
use Rattle.bm_parts.proofs.Filters.{all_each}
use Rattle.bm_levels.proofs.EqualLists.{among_has}
use Rattle.bm_queries.proofs.DistinctKeys.{AreApart, sorted_alike}

abbrev pub Rise : List ℕ → Type 0
Rise xs = T (is_sorted nat_cmp (map (λ n. (n, n)) xs))

-- The numbers of the keys that pass ascend, if they are in the order of the keys.
module _ {K X : Type 0} (R : K → K → Ordering) (number : K → ℕ) (q : K × X → Bool)
    (less : (e f : K × X) → q e ≡ true → q f ≡ true → T (is_lt (R e.0 f.0)) → T (is_lt (nat_cmp (number e.0) (number f.0)))) where
  abbrev numbers : List (K × X) → List ℕ
  numbers es = map (λ e. number e.0) (filter q es)

  below_numbers : (e : K × X) → q e ≡ true → (es : List (K × X)) → T (below_all R e.0 es) → T (below_all nat_cmp (number e.0) (map (λ n. (n, n)) (numbers es)))
  below_numbers e pass [] h = tt
  below_numbers e pass (f ∷ es) h = by (q f) refl (below_numbers e pass es (second _ _ h))
    where
      by : (b : Bool) → q f ≡ b → T (below_all nat_cmp (number e.0) (map (λ n. (n, n)) (numbers es))) → T (below_all nat_cmp (number e.0) (map (λ n. (n, n)) (map (λ e. number e.0) (cond b (f ∷ filter q es) (filter q es)))))
      by true t rest = both _ _ (less e f pass t (first _ _ h)) rest
      by false t rest = rest

  pub numbers_ascend : (es : List (K × X)) → T (is_sorted R es) → Rise (numbers es)
  numbers_ascend [] h = tt
  numbers_ascend (e ∷ es) h = by (q e) refl (numbers_ascend es (second _ _ h))
    where
      by : (b : Bool) → q e ≡ b → Rise (numbers es) → Rise (map (λ e. number e.0) (cond b (e ∷ filter q es) (filter q es)))
      by true t rest = both _ _ (below_numbers e t es (first _ _ h)) rest
      by false t rest = rest

other_numbers : (x : ℕ) (xs : List ℕ) → (IsMember x xs → ⊥) → Each (λ y. eq_by_cmp nat_cmp x y ≡ false) xs
other_numbers x [] absent = tt
other_numbers x (y ∷ ys) absent = (not_tied by_number x y (λ same. absent (inl same)), other_numbers x ys (λ there. absent (inr there)))

numbers_apart : (xs : List ℕ) → Distinct xs → AreApart by_number (λ (n : ℕ). n) xs
numbers_apart [] h = tt
numbers_apart (x ∷ xs) h = (other_numbers x xs h.0, numbers_apart xs h.1)

each_of_them : (P : ℕ → Type 0) (xs : List ℕ) → ((x : ℕ) → IsMember x xs → P x) → Each P xs
each_of_them P [] h = tt
each_of_them P (x ∷ xs) h = (h x (inl refl), each_of_them P xs (λ y there. h y (inr there)))

each_has : (P : ℕ → Type 0) (xs : List ℕ) → ((x : ℕ) → has xs x ≡ true → P x) → Each P xs
each_has P [] h = tt
each_has P (x ∷ xs) h = (h x (or_left (x == x) (has xs x) (same_again x)), each_has P xs (λ y t. h y (or_right (x == y) (has xs y) t)))

pub any_same : (x : ℕ) (xs : List ℕ) → list_any (λ y. eq_by_cmp nat_cmp x y) xs ≡ has xs x
any_same x xs = any_agree (λ y. eq_by_cmp nat_cmp x y) (λ y. y == x) (λ y. number_tie x y ∙ eqb_turned x y) xs

-- different numbers, sorted, are the ascending list with these members
pub same_numbers : (xs ys zs : List ℕ) → Distinct xs → ((x : ℕ) → IsMember x xs → has zs x ≡ true) → ((x : ℕ) → has zs x ≡ true → IsMember x xs) → IsPermutation xs ys → IsSortedByKey (λ (n : ℕ). n) nat_cmp ys → Rise zs → ys ≡ zs
same_numbers xs ys zs once only all moved sorted rise =
    let P : ℕ → Type 0 = λ x. has zs x ≡ true in
    sorted_alike by_number (λ (n : ℕ). n) P (λ _ _ _ _ same. same) xs ys zs (numbers_apart xs once) (each_of_them P xs only) (λ x is. any_same x xs ∙ among_has xs x (all x is)) moved sorted
    (record { ascends = rise; only = all_each P zs (each_has P zs (λ x t. t)); all = λ x is. any_same x zs ∙ is })
