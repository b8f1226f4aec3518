-- Once sorted, a storage's listed blocks, and the missing blocks, are those of the definition.
use Rattle.std.proofs.Common.{◌≡◌, ℕ, Bool, true, false, ◌&&◌, List, map, filter, Option, Some, None, is_some, refl, sym, ap, subst, ◌∙◌, eqb-true}
use Rattle.std.specs.Prelude.{◌==◌, ◌↔◌, option_and_then}
use Rattle.std.specs.Ordering.{nat_cmp, eq_by_cmp}
use Rattle.std.specs.List.Sorted.{IsSortedByKey, IsPermutation}
use Rattle.std.proofs.lemmas.Bool.{and_parts, and_from, false≢true}
use Rattle.bm_base.specs.declared.replica.ReplicaId.{ReplicaId}
use Rattle.bm_base.specs.declared.replica.Marks.{Marks}
use Rattle.bm_base.specs.declared.replica.BlockInfo.{BlockInfo}
use Rattle.bm_base.specs.declared.replica.Level.{Level}
use Rattle.bm_base.specs.declared.replica.Level.TheVariants.{Highest, VeryUnderReplicated, UnderReplicated, BadlyDistributed, NoUsableReplica}
use Rattle.bm_base.specs.Words.{Map, get, entries, keys, contains_key, Cluster, Holdings, by_replica, replica_at, replica_cmp, has, level, level_of, is_at, blocks_on, missing_blocks}
use Rattle.bm_maps.specs.SlotLists.{IsMember, Distinct}
use Rattle.bm_base.proofs.Clusters.{eqb_turned}
use Rattle.bm_base.proofs.ListTests.{any_map, any_filter, any_agree, has_filter}
use Rattle.bm_base.proofs.Options.{there, chained}
use Rattle.bm_base.proofs.Sets.{has_keys, some_is}
use Rattle.bm_base.proofs.Membership.{any_replica}
use Rattle.bm_base.proofs.Ties.{replica_tie}
use Rattle.bm_base.proofs.Orderings.{lesser_block}
use Rattle.bm_parts.proofs.Filters.{map_filter}
use Rattle.bm_arena.specs.Contents.{block_at, slot_of, marks_at, list_of, IsLawful}
use Rattle.bm_arena.specs.HeldMaps.{replicas_of, id_at}
use Rattle.bm_arena.proofs.HeldReplicas.{get-replicas_of}
use Rattle.bm_levels.specs.Status.{level_in}
use Rattle.bm_levels.specs.SlotHoldings.{holdings_with}
use Rattle.bm_levels.specs.IndexedLevels.{level_of_slot}
use Rattle.bm_levels.specs.LeveledBlocks.{Leveled, IsLeveled, AreLevels}
use Rattle.bm_levels.proofs.Levels.{level_is_at_slot}
use Rattle.bm_queries.proofs.Numbers.{Rise, numbers_ascend, same_numbers}
use Rattle.bm_queries.proofs.OwnBlocks.{among_map, among_from_map, id_found, led_to, ids_distinct, own_listed, own_leveled}

swapped : (x y : Bool) → (x && y) ≡ ((y && x) && true)
swapped true true = refl
swapped true false = refl
swapped false true = refl
swapped false false = refl

at_key : (b s : ℕ) (e : ReplicaId × Marks) → ((e.0.storage == s) && (e.0.block == b)) ≡ (eq_by_cmp replica_cmp (replica_at b s) e.0 && true)
at_key b s e =
    swapped (e.0.storage == s) (e.0.block == b) ∙ (λ i. (eqb_turned e.0.block b i && eqb_turned e.0.storage s i) && true) ∙ ap (λ t. t && true) (sym (replica_tie (replica_at b s) e.0))

module _ (m : Map by_replica Marks) (s : ℕ) where
  abbrev of_storage : List ℕ
  of_storage = map (λ e. e.0.block) (filter (λ e. e.0.storage == s) (entries m))

  has_of_storage : (b : ℕ) → has of_storage b ≡ is_some (get m (replica_at b s))
  has_of_storage b =
      any_map (λ y. y == b) (λ (e : ReplicaId × Marks). e.0.block) (filter (λ e. e.0.storage == s) (entries m))
      ∙ any_filter (λ (e : ReplicaId × Marks). e.0.block == b) (λ e. e.0.storage == s) (entries m)
      ∙ any_agree (λ (e : ReplicaId × Marks). (e.0.storage == s) && (e.0.block == b)) (λ e. eq_by_cmp replica_cmp (replica_at b s) e.0 && true) (at_key b s) (entries m)
      ∙ any_replica m (replica_at b s) (λ _. true)
      ∙ some_is (get m (replica_at b s))

  of_storage_ascend : Rise of_storage
  unfolding entries
  of_storage_ascend =
      numbers_ascend replica_cmp (λ (q : ReplicaId). q.block) (λ (e : ReplicaId × Marks). e.0.storage == s)
      (λ e f t u lt. lesser_block e.0 f.0 (eqb-true e.0.storage s t ∙ sym (eqb-true f.0.storage s u)) lt) m.list m.sorted

-- the numbers at the slots of a storage's list, sorted
pub on_storage : (v : Leveled) → IsLawful v.arena → IsLeveled v → (pending : Map by_replica ℕ) (s : ℕ) (ys : List ℕ)
    → IsPermutation (map (id_at v.arena) (list_of v.arena s)) ys → IsSortedByKey (λ (n : ℕ). n) nat_cmp ys → ys ≡ blocks_on (holdings_with v.arena pending) s
unfolding blocks_on holdings_with
on_storage v lawful leveled pending s ys moved sorted =
    let a = v.arena in
    let own = own_listed v lawful leveled s in
    same_numbers (map (id_at a) (list_of a s)) ys (of_storage (replicas_of a) s) (ids_distinct a (list_of a s) (lawful.distinct s) own)
    (λ x here.
    let z = among_from_map (id_at a) (list_of a s) x here in
    has_of_storage (replicas_of a) s x
    ∙ ap is_some (get-replicas_of a (replica_at x s) ∙ ap (λ o. option_and_then (λ k. marks_at a k s) o) (ap (slot_of a) z.2 ∙ led_to a z.0 (own z.0 z.1)))
    ∙ (lawful.exact z.0 s).0 z.1)
    (λ x here.
    let m = there (get (replicas_of a) (replica_at x s)) (sym (has_of_storage (replicas_of a) s x) ∙ here) in
    let at = chained (λ k. marks_at a k s) (slot_of a x) m.0 (sym (get-replicas_of a (replica_at x s)) ∙ m.1) in
    let P : ℕ → Type 0 = λ w. IsMember w (map (id_at a) (list_of a s)) in
    subst P (id_found a lawful x at.0 at.1) (among_map (id_at a) (list_of a s) at.0 ((lawful.exact at.0 s).1 (ap is_some at.2))))
    moved sorted (of_storage_ascend (replicas_of a) s)

-- Blocks at a level.

at_is : (o : Option Level) → is_at NoUsableReplica o ≡ true → o ≡ Some NoUsableReplica
at_is None e = absurd (false≢true e)
at_is (Some Highest) e = absurd (false≢true e)
at_is (Some VeryUnderReplicated) e = absurd (false≢true e)
at_is (Some UnderReplicated) e = absurd (false≢true e)
at_is (Some BadlyDistributed) e = absurd (false≢true e)
at_is (Some NoUsableReplica) e = refl

known_leveled : (C : Cluster) (H : Holdings) (b : ℕ) (l : Level) → level C H b ≡ Some l → contains_key H.blocks b ≡ true
unfolding level
known_leveled C H b l e =
    ap is_some (chained (λ (i : BlockInfo). level_of (record { live = _; drained = _; wanted = i.repl; racks = _; multi_rack = _ })) (get H.blocks b) l e).1

module _ (C : Cluster) (H : Holdings) where
  abbrev is_missing : ℕ → Bool
  is_missing b = is_at NoUsableReplica (level C H b)

  missing_ascend : Rise (filter is_missing (keys H.blocks))
  unfolding keys entries
  missing_ascend =
      subst Rise (sym (map_filter (λ (e : ℕ × BlockInfo). e.0) is_missing H.blocks.list))
      (numbers_ascend nat_cmp (λ (k : ℕ). k) (λ (e : ℕ × BlockInfo). is_missing e.0) (λ e f t u lt. lt) H.blocks.list H.blocks.sorted)

  has_missing : (b : ℕ) → has (filter is_missing (keys H.blocks)) b ≡ (is_missing b && contains_key H.blocks b)
  has_missing b = has_filter is_missing (keys H.blocks) b ∙ ap (λ t. is_missing b && t) (has_keys H.blocks b)

-- the numbers at the slots of the level, sorted
pub at_level : (C : Cluster) (v : Leveled) → IsLawful v.arena → IsLeveled v → AreLevels C v → (pending : Map by_replica ℕ) (slots ys : List ℕ)
    → ((slot : ℕ) → IsMember slot slots ↔ (level_of_slot v.level_index slot ≡ Some NoUsableReplica)) → Distinct slots
    → IsPermutation (map (id_at v.arena) slots) ys → IsSortedByKey (λ (n : ℕ). n) nat_cmp ys → ys ≡ missing_blocks C (holdings_with v.arena pending)
unfolding missing_blocks
at_level C v lawful leveled levels pending slots ys exact once moved sorted =
    let a = v.arena in
    let H = holdings_with a pending in
    let own = λ (slot : ℕ) (here : IsMember slot slots). own_leveled v lawful leveled NoUsableReplica slot ((exact slot).0 here) in
    same_numbers (map (id_at a) slots) ys (filter (is_missing C H) (keys H.blocks)) (ids_distinct a slots once own)
    (λ x here.
    let z = among_from_map (id_at a) slots x here in
    let is : level C H x ≡ Some NoUsableReplica =
    level_is_at_slot C a pending x lawful ∙ ap (λ o. option_and_then (λ slot. level_in C (block_at a slot)) o) (ap (slot_of a) z.2 ∙ led_to a z.0 (own z.0 z.1)) ∙ sym (levels z.0) ∙ (exact z.0).0 z.1 in
    has_missing C H x ∙ and_from (is_missing C H x) (contains_key H.blocks x) (ap (is_at NoUsableReplica) is) (known_leveled C H x NoUsableReplica is))
    (λ x here.
    let two = and_parts (is_missing C H x) (contains_key H.blocks x) (sym (has_missing C H x) ∙ here) in
    let at = chained (λ slot. level_in C (block_at a slot)) (slot_of a x) NoUsableReplica (sym (level_is_at_slot C a pending x lawful) ∙ at_is (level C H x) two.0) in
    let P : ℕ → Type 0 = λ w. IsMember w (map (id_at a) slots) in
    subst P (id_found a lawful x at.0 at.1) (among_map (id_at a) slots at.0 ((exact at.0).1 (levels at.0 ∙ at.2))))
    moved sorted (missing_ascend C H)
