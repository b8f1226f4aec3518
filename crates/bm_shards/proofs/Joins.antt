-- The sorted list of all shards' elements is the list of their joint holdings.
use Rattle.std.proofs.Common.{◌≡◌, ℕ, suc, ◌≤◌, true, false, List, [], ◌∷◌, map, flat_map, length, take, sym, ap, subst, ◌∙◌, arith, eqb-true, T}
use Rattle.std.specs.Prelude.{◌==◌}
use Rattle.std.specs.Ordering.{eq_by_cmp}
use Rattle.std.specs.FinMap.{is_sorted}
use Rattle.std.specs.FinMap.Entries.{below_all}
use Rattle.std.specs.List.Sorted.{IsPermutation, IsSortedByKey}
use Rattle.std.proofs.lemmas.List.{take_all}
use Rattle.std.proofs.lemmas.List.Folds.{flat_map-map}
use Rattle.bm_base.specs.Maps.Conjunction.{first, second}
use Rattle.bm_base.specs.Words.{Order, Holdings}
use Rattle.bm_base.specs.Ordered.{ordered_by}
use Rattle.bm_base.specs.Shards.{shard_of, cut}
use Rattle.bm_base.proofs.ForEach.{Each, each_then, each_appended}
use Rattle.bm_base.proofs.MapEntries.{not_tied}
use Rattle.bm_base.proofs.MapLaws.{not_equal}
use Rattle.bm_parts.specs.Whole.{parts, whole_of, AreOwn}
use Rattle.bm_parts.proofs.WholeParts.{whole_has_its_parts}
use Rattle.bm_parts.proofs.SortedLists.{sorted_is_ordered}
use Rattle.bm_round.proofs.KeyedLists.{ordered_ascends}
use Rattle.bm_queries.proofs.DistinctKeys.{IsNew, AreApart, apart_append, sorted_ascends}
use Rattle.bm_shard.specs.ShardView.{Seen}
use Rattle.bm_shards.specs.Whole.{Whole, parts_of, held_by, AreShards}
use Rattle.bm_shards.proofs.SameShards.{count_of}

-- A list with ascending keys has elements with different keys.

module _ {K X : Type 0} (o : Order K) (key : X → K) where
  others : (k : K) (xs : List X) → T (below_all o.cmp k (map (λ x. (key x, x)) xs)) → Each (λ y. eq_by_cmp o.cmp k (key y) ≡ false) xs
  others k [] h = tt
  others k (x ∷ xs) h = (not_equal (o.cmp k (key x)) (first _ _ h), others k xs (second _ _ h))

  ascending_apart : (xs : List X) → T (is_sorted o.cmp (map (λ x. (key x, x)) xs)) → AreApart o key xs
  ascending_apart [] h = tt
  ascending_apart (x ∷ xs) h = (others (key x) xs (first _ _ h), ascending_apart xs (second _ _ h))

-- Lists of parts, one after another. `number` is the block of a key.

module _ {K Y : Type 0} (o : Order K) (key : Y → K) (number : K → ℕ) (list : Holdings → List Y)
    (joins : (H : Holdings) (shards : ℕ) → 1 ≤ shards → ordered_by o key (flat_map list (parts H shards)) ≡ list H)
    (own : (H : Holdings) (index shards : ℕ) → Each (λ y. (shard_of (number (key y)) shards == index) ≡ true) (list (cut H index shards))) where
  list_apart : (H : Holdings) → AreApart o key (list H)
  list_apart H = ascending_apart o key (list H) (subst (λ ys. T (is_sorted o.cmp (map (λ y. (key y, y)) ys))) (joins H 1 (omega arith)) (ordered_ascends o key (flat_map list (parts H 1))))

  module _ (shards : ℕ) where
    abbrev index_of : Y → ℕ
    index_of y = shard_of (number (key y)) shards

    of_part : (P : Holdings) (index : ℕ) → cut P index shards ≡ P → Each (λ y. (index_of y == index) ≡ true) (list P)
    of_part P index is = subst (λ Q. Each (λ y. (index_of y == index) ≡ true) (list Q)) is (own P index shards)

    -- elements of the parts from an index on belong to no part before it
    later : (index : ℕ) (Ps : List Holdings) → AreOwn shards index Ps → Each (λ y. index ≤ index_of y) (flat_map list Ps)
    later index [] h = tt
    later index (P ∷ Ps) h =
        each_appended (λ y. index ≤ index_of y) (list P) (flat_map list Ps)
        (each_then (λ y. (index_of y == index) ≡ true) (λ y. index ≤ index_of y) (list P) (of_part P index h.0) (λ y e. let same = eqb-true (index_of y) index e in omega (arith, same)))
        (each_then (λ y. suc index ≤ index_of y) (λ y. index ≤ index_of y) (flat_map list Ps) (later (suc index) Ps h.1) (λ y le. omega (arith, le)))

    parts_apart : (index : ℕ) (Ps : List Holdings) → AreOwn shards index Ps → AreApart o key (flat_map list Ps)
    parts_apart index [] h = tt
    parts_apart index (P ∷ Ps) h =
        apart_append o key (list P) (flat_map list Ps) (list_apart P) (parts_apart (suc index) Ps h.1)
        (each_then (λ x. (index_of x == index) ≡ true) (λ x. IsNew o key x (flat_map list Ps)) (list P) (of_part P index h.0)
        (λ x e. each_then (λ y. suc index ≤ index_of y) (λ y. eq_by_cmp o.cmp (key x) (key y) ≡ false) (flat_map list Ps) (later (suc index) Ps h.1)
        (λ y le. not_tied o (key x) (key y) (λ same.
        let here = eqb-true (index_of x) index e in
        let there : index_of x ≡ index_of y = ap (λ k. shard_of (number k) shards) same in
        omega (arith, here, there, le)))))

  sorted_parts : (Ps : List Holdings) (shards : ℕ) (ys : List Y) → AreOwn shards 0 Ps → shards ≡ length Ps → 1 ≤ shards → IsPermutation (flat_map list Ps) ys → IsSortedByKey key o.cmp ys → ys ≡ list (whole_of Ps)
  sorted_parts Ps shards ys each long some moved sorted =
      sym (sorted_is_ordered K Y o key (flat_map list Ps) ys (sorted_ascends o key (flat_map list Ps) ys (parts_apart shards 0 Ps each) moved sorted) moved)
      ∙ ap (λ Qs. ordered_by o key (flat_map list Qs)) (sym (whole_has_its_parts Ps shards each long))
      ∙ joins (whole_of Ps) shards some

  -- what was gathered by a loop over the shards `now` that ended at n, once sorted
  pub sorted_lists : (ss now : List (ℕ × Seen)) (n : ℕ) (F : Whole) → AreShards (length ss) ss → now ≡ ss → length now ≤ n → record { holdings = held_by ss; shards = ss } ≡ F
      → (xs ys : List Y) → xs ≡ flat_map (λ (s : ℕ × Seen). list s.1.holdings) (take n now) → IsPermutation xs ys → IsSortedByKey key o.cmp ys → ys ≡ list F.holdings
  sorted_lists ss now n F are is end seen xs ys all moved sorted =
      sorted_parts (parts_of ss) (length ss) ys are.own (sym (count_of ss)) are.some (subst (λ zs. IsPermutation zs ys) (all ∙ ap (flat_map (λ (s : ℕ × Seen). list s.1.holdings)) (take_all n now end ∙ is) ∙ sym (flat_map-map list (λ (s : ℕ × Seen). s.1.holdings) ss)) moved) sorted
      ∙ ap (λ (G : Whole). list G.holdings) seen
