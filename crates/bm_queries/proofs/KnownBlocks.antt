-- The known blocks at an arena's slots, once sorted, are those of its map, with their slots.
use Rattle.std.proofs.Common.{◌≡◌, ◌≢◌, ℕ, Bool, true, false, cond, ◌&&◌, List, [], ◌∷◌, ◌++◌, map, filter, Option, Some, is_some, refl, sym, ap, subst, inl, inr, ◌∙◌, append_assoc, T, ◌+◌, ◌<◌, ◌≤◌, take, length, suc, arith}
use Rattle.std.specs.Prelude.{option_and_then, slice_index_or}
use Rattle.std.specs.Option.{unwrap_or}
use Rattle.std.specs.Ordering.{nat_cmp, eq_by_cmp}
use Rattle.std.specs.FinMap.{is_sorted}
use Rattle.std.specs.List.{All, list_any}
use Rattle.std.specs.List.Sorted.{IsSortedByKey, IsPermutation}
use Rattle.std.proofs.lemmas.Bool.{and_from}
use Rattle.std.proofs.lemmas.Simd.{map-map}
use Rattle.std.proofs.lemmas.List.{map-append, take_all}
use Rattle.std.proofs.Math.Seq.{take-suc}
use Rattle.bm_base.specs.declared.replica.BlockInfo.{BlockInfo}
use Rattle.bm_base.specs.Words.{Map, by_number, get, entries, keys, by_replica, places}
use Rattle.bm_base.specs.declared.limits.TheConstants.{MAX_PLACES}
use Rattle.bm_base.specs.Promises.Versions.{Row, table}
use Rattle.bm_maps.specs.SlotLists.{IsMember, Distinct}
use Rattle.bm_base.proofs.ForEach.{Each, each_all, each_then, each_both, each_mapped, each_filtered, each_passing}
use Rattle.bm_base.proofs.ListTests.{any_map}
use Rattle.bm_base.proofs.MapEntries.{key_itself, not_tied, each_entry}
use Rattle.bm_base.proofs.Options.{chained}
use Rattle.bm_base.proofs.Sets.{has_keys, passing_some}
use Rattle.bm_arena.specs.Contents.{Contents, slot_of, IsLawful}
use Rattle.bm_arena.specs.HeldMaps.{info_at, blocks_of, id_at}
use Rattle.bm_arena.proofs.HeldReplicas.{get-blocks_of}
use Rattle.bm_parts.specs.Findings.{IsGathered}
use Rattle.bm_parts.proofs.Filters.{any_shown, all_each, filter_all}
use Rattle.bm_parts.proofs.JoinedReplicas.{listed_ascends}
use Rattle.bm_levels.specs.IndexedLevels.{indexed_slots}
use Rattle.bm_levels.specs.SlotHoldings.{holdings_with}
use Rattle.bm_queries.specs.ListedElements.{known_on, with_slot}
use Rattle.bm_queries.proofs.DistinctKeys.{AreApart, IsNew, sorted_alike}
use Rattle.bm_queries.proofs.IndexedSlots.{IsOwn, led_once, led_own, has_led}
use Rattle.bm_queries.proofs.Numbers.{any_same}
use Rattle.bm_queries.proofs.OwnBlocks.{led_to, id_found, one_slot}

abbrev number : ℕ × ℕ → ℕ
number p = p.0

-- the known block at a slot was appended, or there is none
pub put_known : (a : Contents) (xs : List (ℕ × ℕ)) (slots rest : List ℕ) (slot : ℕ) → slots ≡ slot ∷ rest → (xs ++ known_on a (slot ∷ [])) ++ known_on a rest ≡ xs ++ known_on a slots
put_known a xs slots rest slot e =
    append_assoc xs (known_on a (slot ∷ [])) (known_on a rest)
    ∙ ap (λ ys. xs ++ ys) (by (is_some (info_at a slot)))
    ∙ sym (ap (λ l. xs ++ known_on a l) e)
  where
    pair : ℕ → ℕ × ℕ
    pair slot = (id_at a slot, slot)

    by : (b : Bool) → map pair (cond b (slot ∷ []) []) ++ known_on a rest ≡ map pair (cond b (slot ∷ filter (λ slot. is_some (info_at a slot)) rest) (filter (λ slot. is_some (info_at a slot)) rest))
    by true = refl
    by false = refl

module _ (a : Contents) (lawful : IsLawful a) where
  abbrev is_known : ℕ → Bool
  is_known slot = is_some (info_at a slot)

  abbrev pair : ℕ → ℕ × ℕ
  pair slot = (id_at a slot, slot)

  -- a number whose slot has a known block
  abbrev IsKnown : ℕ × ℕ → Type 0
  IsKnown p = (slot_of a p.0 ≡ Some p.1) × (is_known p.1 ≡ true)

  other_slots : (x : ℕ) → IsOwn a x → (xs : List ℕ) → (IsMember x xs → ⊥) → Each (IsOwn a) xs → Each (λ t. id_at a x ≢ id_at a t) xs
  other_slots x own [] absent owns = tt
  other_slots x own (t ∷ xs) absent owns = (λ same. absent (inl (one_slot a x t own owns.0 same)), other_slots x own xs (λ there. absent (inr there)) owns.1)

  known_apart : (slots : List ℕ) → Distinct slots → Each (IsOwn a) slots → AreApart by_number number (known_on a slots)
  known_apart [] once own = tt
  known_apart (x ∷ xs) once own = by (is_known x) (known_apart xs once.1 own.1)
    where
      new : IsNew by_number number (pair x) (known_on a xs)
      new =
          let test : ℕ × ℕ → Type 0 = λ y. eq_by_cmp nat_cmp (id_at a x) y.0 ≡ false in
          each_mapped test pair (filter is_known xs)
          (each_filtered (λ t. test (pair t)) is_known xs
          (each_then (λ t. id_at a x ≢ id_at a t) (λ t. test (pair t)) xs (other_slots x own.0 xs once.0 own.1) (λ t ne. not_tied by_number (id_at a x) (id_at a t) ne)))

      by : (b : Bool) → AreApart by_number number (known_on a xs) → AreApart by_number number (map pair (cond b (x ∷ filter is_known xs) (filter is_known xs)))
      by true rest = (new, rest)
      by false rest = rest

  only_known : Each IsKnown (known_on a (indexed_slots a))
  only_known =
      each_mapped IsKnown pair (filter is_known (indexed_slots a))
      (each_then (λ slot. IsOwn a slot × (is_known slot ≡ true)) (λ slot. IsKnown (pair slot)) (filter is_known (indexed_slots a))
      (each_both (IsOwn a) (λ slot. is_known slot ≡ true) (filter is_known (indexed_slots a)) (each_filtered (IsOwn a) is_known (indexed_slots a) (led_own a lawful)) (each_passing is_known (indexed_slots a)))
      (λ slot h. (led_to a slot h.0, h.1)))

  all_known : (x : ℕ × ℕ) → IsKnown x → list_any (λ y. eq_by_cmp nat_cmp x.0 y.0) (known_on a (indexed_slots a)) ≡ true
  all_known x is =
      let test : ℕ × ℕ → Bool = λ y. eq_by_cmp nat_cmp x.0 y.0 in
      any_shown test pair is_known (indexed_slots a)
      ∙ passing_some (λ slot. is_known slot && test (pair slot)) (indexed_slots a) x.1 (has_led a lawful x.0 x.1 is.0)
      (and_from (is_known x.1) (test (pair x.1)) is.1 (ap (λ k. eq_by_cmp nat_cmp x.0 k) (id_found a lawful x.0 x.1 is.0) ∙ key_itself by_number x.0))

  one_known : (x y : ℕ × ℕ) → IsKnown x → IsKnown y → x.0 ≡ y.0 → x ≡ y
  one_known x y is too same =
      let slots : x.1 ≡ y.1 = some (sym is.0 ∙ ap (slot_of a) same ∙ too.0) in
      λ i. (same i, slots i)
    where
      some : {m n : ℕ} → Some m ≡ Some n → m ≡ n
      some e = cc

  listed_known : IsGathered by_number number IsKnown (map (with_slot a) (keys (blocks_of a)))
  unfolding keys entries
  listed_known =
      let m = blocks_of a in
      let listed : map (λ (e : ℕ × BlockInfo). with_slot a e.0) (filter (λ _. true) m.list) ≡ map (with_slot a) (keys m) = ap (map (λ (e : ℕ × BlockInfo). with_slot a e.0)) (filter_all m.list) ∙ sym (map-map (with_slot a) (λ (e : ℕ × BlockInfo). e.0) m.list) in
      record {
        ascends = subst (λ ys. T (is_sorted nat_cmp (map (λ y. (number y, y)) ys))) listed (listed_ascends nat_cmp (λ (e : ℕ × BlockInfo). with_slot a e.0) (λ _. true) number (λ _. refl) m.list m.sorted);
        only =
            all_each IsKnown (map (with_slot a) (keys m))
            (each_mapped IsKnown (with_slot a) (keys m)
            (each_mapped (λ b. IsKnown (with_slot a b)) (λ (e : ℕ × BlockInfo). e.0) m.list
            (each_then (λ (e : ℕ × BlockInfo). get m e.0 ≡ Some e.1) (λ e. IsKnown (with_slot a e.0)) m.list (each_entry m) (λ e is.
            let h = chained (λ slot. info_at a slot) (slot_of a e.0) e.1 (sym (get-blocks_of a e.0) ∙ is) in
            (h.1 ∙ ap (λ (o : Option ℕ). Some (unwrap_or o 0)) (sym h.1), ap (λ (o : Option ℕ). is_known (unwrap_or o 0)) h.1 ∙ ap is_some h.2)))));
        all = λ x is.
            any_map (λ (y : ℕ × ℕ). eq_by_cmp nat_cmp x.0 y.0) (with_slot a) (keys m)
            ∙ any_same x.0 (keys m)
            ∙ has_keys m x.0
            ∙ ap is_some (get-blocks_of a x.0)
            ∙ ap (λ (o : Option ℕ). is_some (option_and_then (λ slot. info_at a slot) o)) is.0
            ∙ is.1;
      }

  -- the blocks found at the slots, sorted
  pub sorted_blocks : (ys : List (ℕ × ℕ)) → IsPermutation (known_on a (indexed_slots a)) ys → IsSortedByKey number nat_cmp ys → ys ≡ map (with_slot a) (keys (blocks_of a))
  sorted_blocks ys moved sorted =
      sorted_alike by_number number IsKnown one_known (known_on a (indexed_slots a)) ys (map (with_slot a) (keys (blocks_of a))) (known_apart (indexed_slots a) (led_once a lawful) (led_own a lawful)) only_known all_known moved sorted listed_known

  -- each slot is that of its number
  pub slots_found : All (λ (p : ℕ × ℕ). slot_of a p.0 ≡ Some p.1) (map (with_slot a) (keys (blocks_of a)))
  slots_found =
      all_each (λ (p : ℕ × ℕ). slot_of a p.0 ≡ Some p.1) (map (with_slot a) (keys (blocks_of a)))
      (each_then IsKnown (λ (p : ℕ × ℕ). slot_of a p.0 ≡ Some p.1) (map (with_slot a) (keys (blocks_of a))) (each_all IsKnown (map (with_slot a) (keys (blocks_of a))) listed_known.only) (λ p h. h.0))

-- The rows of these blocks.

abbrev pub row_in : Contents → Map by_replica ℕ → ℕ × ℕ → Row
row_in a pending p = (p.0, take MAX_PLACES (places (holdings_with a pending) p.0))

-- one more row was appended
pub row_put : (f : ℕ × ℕ → Row) (ps : List (ℕ × ℕ)) (i : ℕ) (p : ℕ × ℕ) → i < length ps → p ≡ slice_index_or ps i p → map f (take i ps) ++ f p ∷ [] ≡ map f (take (i + 1) ps)
row_put f ps i p lt is =
    ap (λ x. map f (take i ps) ++ f x ∷ []) is
    ∙ sym (ap (λ n. map f (take n ps)) next ∙ ap (map f) (take-suc ps i p lt) ∙ map-append f (take i ps) (slice_index_or ps i p ∷ []))
  where
    next : i + 1 ≡ suc i
    next = omega arith

-- the rows of all known blocks are the table
pub all_rows : (a : Contents) (pending : Map by_replica ℕ) (n : ℕ) (ps : List (ℕ × ℕ)) → length ps ≤ n → ps ≡ map (with_slot a) (keys (blocks_of a)) → map (row_in a pending) (take n ps) ≡ table (holdings_with a pending)
unfolding table holdings_with
all_rows a pending n ps far is =
    ap (map (row_in a pending)) (take_all n ps far ∙ is)
    ∙ map-map (row_in a pending) (with_slot a) (keys (blocks_of a))
