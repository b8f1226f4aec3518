-- The storages at a slot whose replicas pass, once sorted, are those that pass of its block.
use Rattle.std.specs.Prelude.{◌≡◌, ℕ, Bool, true, false, Some, ◌&&◌, ◌==◌, List, [], ◌∷◌, map, filter, T}
use Rattle.std.specs.Ordering.{nat_cmp, eq_by_cmp, is_lt}
use Rattle.std.specs.declared.cmp.Ordering.{Ordering}
use Rattle.std.specs.FinMap.{is_sorted}
use Rattle.std.specs.FinMap.Entries.{below_all}
use Rattle.std.specs.List.{list_any, IsDistinct}
use Rattle.std.specs.List.Sorted.{IsPermutation, IsSortedByKey}
use Rattle.std.proofs.Common.{cond, refl, sym, subst, ◌∙◌, eqb-true}
use Rattle.std.proofs.lemmas.Bool.{and_parts, or_left, or_right}
use Rattle.bm_base.specs.Maps.Conjunction.{both, first, second}
use Rattle.bm_base.specs.declared.replica.ReplicaId.{ReplicaId}
use Rattle.bm_base.specs.declared.replica.Marks.{Marks}
use Rattle.bm_base.specs.Words.{Map, by_number, entries, Holdings, by_replica, replica_cmp, has, storages_where}
use Rattle.bm_maps.specs.SlotLists.{Distinct}
use Rattle.bm_base.proofs.Clusters.{eqb_turned}
use Rattle.bm_base.proofs.ForEach.{Each}
use Rattle.bm_base.proofs.ListTests.{any_agree, same_again}
use Rattle.bm_base.proofs.Ties.{number_tie}
use Rattle.bm_base.proofs.Orderings.{lesser_storage}
use Rattle.bm_parts.proofs.Filters.{all_each}
use Rattle.bm_parts.proofs.EqualLists.{gathered_alike}
use Rattle.bm_arena.specs.Triplets.{Block}
use Rattle.bm_arena.specs.Contents.{Contents, block_at, slot_of, IsLawful}
use Rattle.bm_levels.specs.Status.{storages_at}
use Rattle.bm_levels.specs.SlotHoldings.{holdings_with}
use Rattle.bm_levels.proofs.EqualLists.{passing_distinct}
use Rattle.bm_levels.proofs.Levels.{alike}
use Rattle.bm_round_scan.proofs.SortedElements.{gathered_sorted}
use Rattle.bm_round_scan.proofs.Permutations.{as_ties}

-- A number of each key that passes, if the numbers ascend as the keys do.
module _ {K X : Type 0} (R : K → K → Ordering) (number : K → ℕ) (q : K × X → Bool)
    (less : (e f : K × X) → q e ≡ true → q f ≡ true → T (is_lt (R e.0 f.0)) → T (is_lt (nat_cmp (number e.0) (number f.0)))) where
  abbrev numbers : List (K × X) → List ℕ
  numbers es = map (λ e. number e.0) (filter q es)

  below_numbers : (e : K × X) → q e ≡ true → (es : List (K × X)) → T (below_all R e.0 es) → T (below_all nat_cmp (number e.0) (map (λ n. (n, n)) (numbers es)))
  below_numbers e pass [] h = tt
  below_numbers e pass (f ∷ es) h = by (q f) refl (below_numbers e pass es (second _ _ h))
    where
      by : (b : Bool) → q f ≡ b → T (below_all nat_cmp (number e.0) (map (λ n. (n, n)) (numbers es))) → T (below_all nat_cmp (number e.0) (map (λ n. (n, n)) (map (λ e. number e.0) (cond b (f ∷ filter q es) (filter q es)))))
      by true t rest = both _ _ (less e f pass t (first _ _ h)) rest
      by false t rest = rest

  numbers_ascend : (es : List (K × X)) → T (is_sorted R es) → T (is_sorted nat_cmp (map (λ n. (n, n)) (numbers es)))
  numbers_ascend [] h = tt
  numbers_ascend (e ∷ es) h = by (q e) refl (numbers_ascend es (second _ _ h))
    where
      by : (b : Bool) → q e ≡ b → T (is_sorted nat_cmp (map (λ n. (n, n)) (numbers es))) → T (is_sorted nat_cmp (map (λ n. (n, n)) (map (λ e. number e.0) (cond b (e ∷ filter q es) (filter q es)))))
      by true t rest = both _ _ (below_numbers e t es (first _ _ h)) rest
      by false t rest = rest

where_ascend : (p : ℕ → Marks → Bool) (H : Holdings) (b : ℕ) → T (is_sorted nat_cmp (map (λ n. (n, n)) (storages_where p H b)))
unfolding storages_where entries
where_ascend p H b =
    numbers_ascend replica_cmp (λ (q : ReplicaId). q.storage) (λ (e : ReplicaId × Marks). (e.0.block == b) && p e.0.storage e.1)
    (λ e f t u lt.
    lesser_storage e.0 f.0
    (eqb-true e.0.block b (and_parts (e.0.block == b) (p e.0.storage e.1) t).0 ∙ sym (eqb-true f.0.block b (and_parts (f.0.block == b) (p f.0.storage f.1) u).0)) lt) H.replicas.list H.replicas.sorted

each_has : (P : ℕ → Type 0) (xs : List ℕ) → ((x : ℕ) → has xs x ≡ true → P x) → Each P xs
each_has P [] h = tt
each_has P (x ∷ xs) h = (h x (or_left (x == x) (has xs x) (same_again x)), each_has P xs (λ y t. h y (or_right (x == y) (has xs y) t)))

any_same : (x : ℕ) (xs : List ℕ) → list_any (λ y. eq_by_cmp nat_cmp x y) xs ≡ has xs x
any_same x xs = any_agree (λ y. eq_by_cmp nat_cmp x y) (λ y. y == x) (λ y. number_tie x y ∙ eqb_turned x y) xs

differ : (xs : List ℕ) → Distinct xs → IsDistinct (λ x y. eq_by_cmp nat_cmp x y) xs
differ xs once = subst (λ t. IsDistinct t xs) (λ j x y. sym (number_tie x y) j) (as_ties xs once)

module _ (p : ℕ → Marks → Bool) (a : Contents) (pending : Map by_replica ℕ) (lawful : IsLawful a) (b slot : ℕ) (k : Block) (here : slot_of a b ≡ Some slot) (block_there : block_at a slot ≡ Some k) where
  abbrev H : Holdings
  H = holdings_with a pending

  -- the storages of the block's replicas that pass
  pub sorted_where : (ys : List ℕ) → IsPermutation (storages_at p k.replicas) ys → IsSortedByKey (λ (n : ℕ). n) nat_cmp ys → ys ≡ storages_where p H b
  sorted_where ys moved sorted =
      let xs = storages_at p k.replicas in
      let zs = storages_where p H b in
      let P : ℕ → Type 0 = λ x. has zs x ≡ true in
      let same = alike a pending lawful b slot k here block_there p in
      gathered_alike by_number (λ (n : ℕ). n) P (λ _ _ _ _ same. same) ys zs
      (gathered_sorted by_number (λ (n : ℕ). n) P xs ys (record { permutation = moved; sorted = sorted }) (differ xs (passing_distinct p k.replicas (lawful.once slot k block_there)))
      (each_has P xs (λ x t. same x ∙ t)) (λ x t. any_same x xs ∙ sym (same x) ∙ t))
      (record { ascends = where_ascend p H b; only = all_each P zs (each_has P zs (λ x t. t)); all = λ x t. any_same x zs ∙ t })
