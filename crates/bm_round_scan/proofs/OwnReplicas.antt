-- A block's scan has the surplus and the replicas that the definition gives as a round begins.
use Rattle.std.specs.Prelude.{◌≡◌, ℕ, Bool, true, false, ◌&&◌, ◌==◌, List, [], ◌∷◌, map, filter, Option, Some, None, option_map, option_and_then, T}
use Rattle.std.specs.Option.{option_map_or}
use Rattle.std.specs.Ordering.{nat_cmp, eq_by_cmp, is_lt, ordering_then}
use Rattle.std.specs.Cmp.{tied_itself, nat_cmp_total}
use Rattle.std.specs.FinMap.{is_sorted}
use Rattle.std.specs.List.{list_any, IsDistinct, AllByRecursion}
use Rattle.std.specs.List.Sorted.{IsPermutation}
use Rattle.std.proofs.Common.{cond, get_or, inl, inr, refl, sym, ap, subst, ◌∙◌, ◌+◌, eqb-true, eq-eqb, ne_eqb}
use Rattle.std.proofs.lemmas.Cmp.{eq_by_cmp_equiv}
use Rattle.std.proofs.lemmas.Map.Keys.{IsDistinct-IsPermutation}
use Rattle.std.proofs.lemmas.List.Sorted.{All-permutation, IsPermutation-map, list_any-IsPermutation}
use Rattle.std.proofs.lemmas.Simd.{map-map}
use Rattle.std.proofs.Math.Bool.{and-false}
use Rattle.bm_base.specs.declared.replica.ReplicaId.{ReplicaId}
use Rattle.bm_base.specs.declared.replica.Marks.{Marks}
use Rattle.bm_base.specs.Words.{Map, by_number, get, empty, insert_all, keep, revise, entries, Cluster, Holdings, by_replica, replica_cmp, replica_at, has, has_repeats, storages_where, is_live_on, without_expired, with_excess_reset, without_unordered_excess, excess_of, excess_in, with_surplus_marked}
use Rattle.bm_base.specs.Maps.OfSorted.{of_sorted}
use Rattle.bm_base.specs.RoundParts.{holdings_at_choice}
use Rattle.bm_base.proofs.OfSorted.{entries-of_sorted}
use Rattle.bm_base.proofs.MapLaws.{same_map, get-keep, get-revise, entries-keep, entries-revise}
use Rattle.bm_base.proofs.MapEntries.{get_kept, get_keeps, get_revised}
use Rattle.bm_base.proofs.ForEach.{Each, each_all, each_mapped, each_then}
use Rattle.bm_base.proofs.Ties.{replica_tie}
use Rattle.bm_base.proofs.Clusters.{eqb_turned}
use Rattle.bm_base.proofs.ListTests.{any_map, any_agree, filter_filter}
use Rattle.bm_base.proofs.Membership.{once_where}
use Rattle.bm_maps.specs.SlotLists.{IsMember, Distinct}
use Rattle.bm_parts.proofs.Filters.{all_each, any_shown, map_filter}
use Rattle.bm_parts.proofs.JoinedShares.{gathered, own_entries}
use Rattle.bm_arena.specs.Triplets.{Block}
use Rattle.bm_arena.specs.Contents.{Contents, block_at, slot_of, find_marks, IsLawful}
use Rattle.bm_arena.specs.HeldMaps.{replicas_at}
use Rattle.bm_levels.specs.Status.{storages_at}
use Rattle.bm_levels.specs.SlotHoldings.{holdings_with}
use Rattle.bm_levels.proofs.EqualLists.{has_among, passing_listed, passing_found}
use Rattle.bm_levels.proofs.Levels.{found_marks, found_info}
use Rattle.bm_round_scan.specs.declared.block_scan.BlockScan.{BlockScan}
use Rattle.bm_round_scan.specs.BlockFindings.{IsInOrder}
use Rattle.bm_round_scan.specs.BlockMarks.{marked_if, marked_on, excess_reset, of_block}
use Rattle.bm_round_scan.specs.BlockScans.{own_replicas, surplus_of, IsBlockScan}
use Rattle.bm_round_scan.proofs.SortedElements.{ascends_from}

-- a filter of a map with changed values is the filtered map with changed values
kept_revised : {X : Type 0} (m : Map by_replica X) (p : ReplicaId → Bool) (f g : ReplicaId → X → X) → ((q : ReplicaId) (x : X) → p q ≡ true → f q x ≡ g q x)
    → keep (revise m f) (λ q _. p q) ≡ revise (keep m (λ q _. p q)) g
kept_revised {X} m p f g same =
    same_map (keep (revise m f) (λ q _. p q)) (revise (keep m (λ q _. p q)) g) (λ q.
    get-keep (revise m f) (λ q _. p q) q ∙ ap (option_and_then (λ x. cond (p q) (Some x) None)) (get-revise m f q) ∙ by q (p q) refl (get m q)
    ∙ sym (get-revise (keep m (λ q _. p q)) g q ∙ ap (option_map (g q)) (get-keep m (λ q _. p q) q)))
  where
    by : (q : ReplicaId) (t : Bool) → p q ≡ t → (o : Option X) → option_and_then (λ x. cond t (Some x) None) (option_map (f q) o) ≡ option_map (g q) (option_and_then (λ x. cond t (Some x) None) o)
    by q true e None = refl
    by q true e (Some x) = ap Some (same q x e)
    by q false e None = refl
    by q false e (Some x) = refl

-- the storages of a block's replicas depend only on these replicas
pub storages_own : (p : ℕ → Marks → Bool) (H : Holdings) (b : ℕ) (rs : List (ℕ × Marks)) → map (of_block b) rs ≡ entries (own_replicas H b) → storages_at p rs ≡ storages_where p H b
unfolding storages_where
storages_own p H b rs own =
    let storage : ReplicaId × Marks → ℕ = λ e. e.0.storage in
    let passes : ReplicaId × Marks → Bool = λ e. p e.0.storage e.1 in
    sym (ap (map storage) (map_filter (of_block b) passes rs) ∙ map-map storage (of_block b) (filter (λ r. p r.0 r.1) rs))
    ∙ ap (λ es. map storage (filter passes es)) (own ∙ entries-keep by_replica H.replicas (λ q _. q.block == b))
    ∙ ap (map storage) (filter_filter passes (λ e. e.0.block == b) (entries H.replicas))

-- Replicas in a list, each on another storage.

found_listed : (rs : List (ℕ × Marks)) → Distinct (map (λ r. r.0) rs) → (s : ℕ) (m : Marks) → find_marks rs s ≡ Some m → has (storages_at (λ _ _. true) rs) s ≡ true
found_listed rs d s m e = passing_found (λ _ _. true) rs d s ∙ ap (λ (o : Option Marks). option_map_or (λ _. true) o false) e

-- a search for the storage of a replica finds the replica
found_each : (rs : List (ℕ × Marks)) → Distinct (map (λ r. r.0) rs) → Each (λ r. find_marks rs r.0 ≡ Some r.1) rs
found_each [] d = tt
found_each (r ∷ rs) d = (
  ap (λ t. cond t (Some r.1) (find_marks rs r.0)) (eq-eqb r.0 r.0 refl),
  each_then (λ q. find_marks rs q.0 ≡ Some q.1) (λ q. find_marks (r ∷ rs) q.0 ≡ Some q.1) rs (found_each rs d.1) (λ q h. by_storage q (r.0 == q.0) refl h),
)
  where
    by_storage : (q : ℕ × Marks) (t : Bool) → (r.0 == q.0) ≡ t → find_marks rs q.0 ≡ Some q.1 → cond t (Some r.1) (find_marks rs q.0) ≡ Some q.1
    by_storage q true e h =
        let there = passing_listed (λ _ _. true) rs q.0 (has_among (storages_at (λ _ _. true) rs) q.0 (found_listed rs d.1 q.0 q.1 h)) in
        absurd (d.0 (let P : ℕ → Type 0 = λ s. IsMember s (map (λ (r : ℕ × Marks). r.0) rs) in subst P (sym (eqb-true r.0 q.0 e)) there))
    by_storage q false e h = h

module _ (b : ℕ) where
  abbrev is_tie : ℕ × Marks → ℕ × Marks → Bool
  is_tie x y = eq_by_cmp replica_cmp (replica_at b x.0) (replica_at b y.0)

  apart_from : (x : ℕ × Marks) (rs : List (ℕ × Marks)) → (IsMember x.0 (map (λ r. r.0) rs) → ⊥) → AllByRecursion (λ y. is_tie x y ≡ false) (excess_reset rs)
  apart_from x [] none = tt
  apart_from x (r ∷ rs) none = (
    replica_tie (replica_at b x.0) (replica_at b r.0) ∙ ap (λ t. (b == b) && t) (ne_eqb x.0 r.0 (λ same. none (inl same))) ∙ and-false (b == b),
    apart_from x rs (λ h. none (inr h)),
  )

  all_apart : (rs : List (ℕ × Marks)) → Distinct (map (λ r. r.0) rs) → IsDistinct is_tie (excess_reset rs)
  unfolding IsDistinct
  all_apart [] d = tt
  all_apart (r ∷ rs) d = (apart_from (r.0, with_excess_reset r.1) rs d.0, all_apart rs d.1)

  -- sorted by storage they are sorted
  sorted_ascend : (rs ys : List (ℕ × Marks)) → Distinct (map (λ r. r.0) rs) → IsInOrder by_number (λ r. r.0) (excess_reset rs) ys → T (is_sorted replica_cmp (map (of_block b) ys))
  sorted_ascend rs ys d is =
      let key : ℕ × Marks → ReplicaId = λ r. replica_at b r.0 in
      ascends_from by_replica key (λ (r : ℕ × Marks). r.1) ys
      (λ k e low lt. ap (λ o. is_lt (ordering_then o (nat_cmp (get_or ys (k + 1) e).0 (get_or ys k e).0))) (tied_itself nat_cmp_total b) ∙ is.sorted k e low lt)
      (IsDistinct-IsPermutation is_tie (λ x y. (eq_by_cmp_equiv by_replica.total).symm (key x) (key y)) (excess_reset rs) ys is.permutation (all_apart rs d))

module _ (a : Contents) (pending : Map by_replica ℕ) (lawful : IsLawful a) (b slot : ℕ) (k : Block) (here : slot_of a b ≡ Some slot) (block_there : block_at a slot ≡ Some k) (C : Cluster) (pend r : ℕ) where
  abbrev H : Holdings
  H = holdings_with a pending

  -- the holdings without expired transfers and without unordered excess
  abbrev U : Holdings
  U = without_unordered_excess (without_expired pend r H)

  abbrev IsOwn : ReplicaId × Marks → Type 0
  IsOwn e = get (own_replicas U b) e.0 ≡ Some e.1

  each_own : Each IsOwn (map (of_block b) (excess_reset k.replicas))
  unfolding without_unordered_excess without_expired
  each_own =
      each_mapped IsOwn (of_block b) (excess_reset k.replicas)
      (each_mapped (λ (x : ℕ × Marks). IsOwn (of_block b x)) (λ (x : ℕ × Marks). (x.0, with_excess_reset x.1)) k.replicas
      (each_then (λ x. find_marks k.replicas x.0 ≡ Some x.1) (λ x. IsOwn (of_block b (x.0, with_excess_reset x.1))) k.replicas (found_each k.replicas (lawful.once slot k block_there))
      (λ x e. get_keeps U.replicas (λ q _. q.block == b) (replica_at b x.0) (with_excess_reset x.1)
      (get-revise H.replicas (λ _ m. with_excess_reset m) (replica_at b x.0) ∙ ap (option_map with_excess_reset) (found_marks a pending lawful b slot k here block_there x.0 ∙ e)) (eq-eqb b b refl))))

  all_own : (q : ReplicaId) (m : Marks) → get (own_replicas U b) q ≡ Some m → list_any (λ e. eq_by_cmp replica_cmp q e.0) (map (of_block b) (excess_reset k.replicas)) ≡ true
  unfolding without_unordered_excess without_expired
  all_own q m e =
      let kept = get_kept U.replicas (λ q _. q.block == b) q m e in
      let was = get_revised H.replicas (λ _ m. with_excess_reset m) q m kept.0 in
      let found = sym (found_marks a pending lawful b slot k here block_there q.storage) ∙ ap (λ c. get H.replicas (replica_at c q.storage)) (sym (eqb-true q.block b kept.1)) ∙ was.1 in
      any_map (λ e. eq_by_cmp replica_cmp q e.0) (of_block b) (excess_reset k.replicas)
      ∙ any_map (λ (x : ℕ × Marks). eq_by_cmp replica_cmp q (replica_at b x.0)) (λ (x : ℕ × Marks). (x.0, with_excess_reset x.1)) k.replicas
      ∙ any_agree (λ (x : ℕ × Marks). eq_by_cmp replica_cmp q (replica_at b x.0)) (λ x. x.0 == q.storage) (λ x. replica_tie q (replica_at b x.0) ∙ ap (λ t. t && (q.storage == x.0)) kept.1 ∙ eqb_turned q.storage x.0) k.replicas
      ∙ sym (any_shown (λ s. s == q.storage) (λ (x : ℕ × Marks). x.0) (λ _. true) k.replicas)
      ∙ found_listed k.replicas (lawful.once slot k block_there) q.storage was.0 found

  -- those at the slot, sorted, are the block's replicas
  own_sorted : (ys : List (ℕ × Marks)) → IsInOrder by_number (λ r. r.0) (excess_reset k.replicas) ys → map (of_block b) ys ≡ entries (own_replicas U b)
  own_sorted ys is =
      let xs : List (ReplicaId × Marks) = map (of_block b) (excess_reset k.replicas) in
      let zs : List (ReplicaId × Marks) = map (of_block b) ys in
      let moved : IsPermutation xs zs = IsPermutation-map (of_block b) (excess_reset k.replicas) ys is.permutation in
      let same = entries-of_sorted by_replica zs (sorted_ascend b k.replicas ys (lawful.once slot k block_there) is) in
      sym same
      ∙ ap entries
      (sym (own_entries (of_sorted zs)) ∙ ap (insert_all empty) same
      ∙ gathered (own_replicas U b) zs (each_all IsOwn zs (All-permutation IsOwn xs zs moved (all_each IsOwn xs each_own)))
      (λ q m e. sym (list_any-IsPermutation (λ e. eq_by_cmp replica_cmp q e.0) xs zs moved) ∙ all_own q m e))

  marked_is : revise (own_replicas U b) (λ q m. marked_if (has (surplus_of C pend r H b) q.storage) m) ≡ own_replicas (holdings_at_choice C pend r H) b
  unfolding holdings_at_choice with_surplus_marked
  marked_is =
      sym (kept_revised U.replicas (λ q. q.block == b) (λ q m. marked_if (has (excess_in C U q.block) q.storage) m) (λ q m. marked_if (has (excess_in C U b) q.storage) m)
      (λ q x e. ap (λ c. marked_if (has (excess_in C U c) q.storage) x) (eqb-true q.block b e)))

  excess_is : (ys : List (ℕ × Marks)) → map (of_block b) ys ≡ entries (own_replicas U b) → option_map_or (λ i. excess_of C (storages_at (is_live_on C) ys) i.repl) k.info [] ≡ surplus_of C pend r H b
  unfolding excess_in without_unordered_excess without_expired
  excess_is ys own =
      (λ j. option_map_or (λ i. excess_of C (storages_own (is_live_on C) U b ys own j) i.repl) (sym (found_info a pending lawful b slot k here block_there) j) [])

-- the sorted replicas of a block are its own replicas
own_of : (a : Contents) (C : Cluster) (b slot : ℕ) (rs : List (ℕ × Marks)) → IsLawful a → slot_of a b ≡ Some slot → IsInOrder by_number (λ r. r.0) (excess_reset (replicas_at a slot)) rs
    → (pend r : ℕ) (pending : Map by_replica ℕ) → map (of_block b) rs ≡ entries (own_replicas (without_unordered_excess (without_expired pend r (holdings_with a pending))) b)
own_of a C b slot rs lawful here filled pend r pending =
    let found = lawful.found b slot here in
    own_sorted a pending lawful b slot found.1 here found.2 C pend r rs (subst (λ o. IsInOrder by_number (λ (r : ℕ × Marks). r.0) (excess_reset (option_map_or (λ (z : Block). z.replicas) o [])) rs) found.2 filled)

-- each storage occurs once
pub storages_once : (a : Contents) (C : Cluster) (b slot : ℕ) (rs : List (ℕ × Marks)) → IsLawful a → slot_of a b ≡ Some slot → IsInOrder by_number (λ r. r.0) (excess_reset (replicas_at a slot)) rs
    → (p : ℕ → Marks → Bool) → has_repeats (storages_at p rs) ≡ false
storages_once a C b slot rs lawful here filled p =
    let H : Holdings = without_unordered_excess (without_expired 0 0 (holdings_with a empty)) in
    ap has_repeats (storages_own p H b rs (own_of a C b slot rs lawful here filled 0 0 empty)) ∙ once_where p H b

-- a scan with these parts is the defined one
pub look_is : (a : Contents) (C : Cluster) (l : BlockScan) (slot : ℕ) (rs : List (ℕ × Marks)) → IsLawful a → slot_of a l.id ≡ Some slot
    → IsInOrder by_number (λ r. r.0) (excess_reset (replicas_at a slot)) rs → l.info ≡ option_and_then (λ (k : Block). k.info) (block_at a slot)
    → ((s : ℕ) → has l.excess.items s ≡ has (option_map_or (λ i. excess_of C (storages_at (is_live_on C) rs) i.repl) l.info []) s) → l.replicas.items ≡ marked_on l.excess.items rs
    → (pend r : ℕ) (pending : Map by_replica ℕ) → IsBlockScan C pend r (holdings_with a pending) l
look_is a C l slot rs lawful here filled info excess replicas pend r pending =
    let found = lawful.found l.id slot here in
    let k : Block = found.1 in
    let block_there : block_at a slot ≡ Some k = found.2 in
    let m : Map by_replica Marks = own_replicas (U a pending lawful l.id slot k here block_there C pend r) l.id in
    let own : map (of_block l.id) rs ≡ entries m = own_of a C l.id slot rs lawful here filled pend r pending in
    let known : l.info ≡ k.info = info ∙ ap (option_and_then (λ (z : Block). z.info)) block_there in
    let many : (s : ℕ) → has l.excess.items s ≡ has (surplus_of C pend r (holdings_with a pending) l.id) s =
    λ s. excess s ∙ (λ j. has (option_map_or (λ i. excess_of C (storages_at (is_live_on C) rs) i.repl) (known j) []) s) ∙ ap (λ ss. has ss s) (excess_is a pending lawful l.id slot k here block_there C pend r rs own) in
    let marked : ReplicaId × Marks → ReplicaId × Marks = λ e. (e.0, marked_if (has l.excess.items e.0.storage) e.1) in
    record {
      info = known ∙ sym (found_info a pending lawful l.id slot k here block_there);
      excess = many;
      replicas =
          ap (map (of_block l.id)) replicas ∙ map-map (of_block l.id) (λ (x : ℕ × Marks). (x.0, marked_if (has l.excess.items x.0) x.1)) rs ∙ sym (map-map marked (of_block l.id) rs) ∙ ap (map marked) own
          ∙ sym (entries-revise by_replica m (λ q x. marked_if (has l.excess.items q.storage) x))
          ∙ ap entries ((λ j. revise m (λ q x. marked_if (many q.storage j) x)) ∙ marked_is a pending lawful l.id slot k here block_there C pend r);
    }
