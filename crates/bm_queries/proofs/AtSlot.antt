-- Reading a block's slot answers whether it is known or still stored, and what its places are.
use Rattle.std.proofs.Common.{◌≡◌, ℕ, Bool, true, false, cond, ◌&&◌, List, [], ◌∷◌, ◌++◌, map, filter, Option, Some, None, is_some, refl, sym, ap, subst, ◌∙◌, eqb-true, eq-eqb, append_assoc}
use Rattle.std.specs.Prelude.{◌==◌, option_and_then}
use Rattle.std.specs.Option.{option_map_or}
use Rattle.std.specs.Cmp.{both_ways}
use Rattle.std.specs.Ordering.{nat_cmp}
use Rattle.std.specs.List.{list_any}
use Rattle.std.specs.List.Sorted.{IsSortedByKey, IsPermutation}
use Rattle.std.proofs.lemmas.Bool.{and_parts, and_from, false≢true}
use Rattle.bm_base.specs.declared.replica.ReplicaId.{ReplicaId}
use Rattle.bm_base.specs.declared.replica.Marks.{Marks}
use Rattle.bm_base.specs.Words.{Map, get, entries, Holdings, by_replica, replica_at, replica_cmp, has, is_good, is_stray, storages_where, knows_block, is_still_stored, places}
use Rattle.bm_maps.specs.SlotLists.{Distinct}
use Rattle.bm_base.proofs.ForEach.{each_any}
use Rattle.bm_base.proofs.MapEntries.{each_entry, passes_entry}
use Rattle.bm_base.proofs.Membership.{has_where}
use Rattle.bm_base.proofs.Orderings.{lesser_storage}
use Rattle.bm_arena.specs.Triplets.{Block}
use Rattle.bm_arena.specs.Contents.{Contents, block_at, slot_of, marks_at, find_marks, IsLawful}
use Rattle.bm_arena.specs.HeldMaps.{replicas_of, replicas_at, info_at}
use Rattle.bm_arena.proofs.HeldReplicas.{get-replicas_of, get-blocks_of}
use Rattle.bm_levels.specs.Status.{storages_at}
use Rattle.bm_levels.specs.SlotHoldings.{holdings_with}
use Rattle.bm_levels.proofs.EqualLists.{among_has, has_among, passing_distinct}
use Rattle.bm_levels.proofs.Levels.{alike}
use Rattle.bm_queries.proofs.FoundReplicas.{each_marks, marks_pass}
use Rattle.bm_queries.proofs.Numbers.{Rise, numbers_ascend, same_numbers}

-- the storages of the good replicas of a block
abbrev pub good_storages : Contents → ℕ → List ℕ
good_storages a b = option_map_or (λ slot. storages_at (λ _ m. is_good m.tag) (replicas_at a slot)) (slot_of a b) []

-- Iteration over the replicas at a slot.

module _ (p : ℕ → Marks → Bool) (rs rest : List (ℕ × Marks)) (r : ℕ × Marks) (e : rs ≡ r ∷ rest) where
  abbrev storages : List (ℕ × Marks) → List ℕ
  storages rs = storages_at p rs

  pub storage_put : (xs : List ℕ) → p r.0 r.1 ≡ true → (xs ++ r.0 ∷ []) ++ storages rest ≡ xs ++ storages rs
  storage_put xs pass =
      append_assoc xs (r.0 ∷ []) (storages rest)
      ∙ sym (ap (λ l. xs ++ storages l) e ∙ ap (λ b. xs ++ map (λ (r : ℕ × Marks). r.0) (cond b (r ∷ filter (λ (r : ℕ × Marks). p r.0 r.1) rest) (filter (λ (r : ℕ × Marks). p r.0 r.1) rest))) pass)

  pub storage_left : (xs : List ℕ) → p r.0 r.1 ≡ false → xs ++ storages rest ≡ xs ++ storages rs
  storage_left xs fail =
      sym (ap (λ l. xs ++ storages l) e ∙ ap (λ b. xs ++ map (λ (r : ℕ × Marks). r.0) (cond b (r ∷ filter (λ (r : ℕ × Marks). p r.0 r.1) rest) (filter (λ (r : ℕ × Marks). p r.0 r.1) rest))) fail)

where_ascend : (p : ℕ → Marks → Bool) (H : Holdings) (b : ℕ) → Rise (storages_where p H b)
unfolding storages_where entries
where_ascend p H b =
    numbers_ascend replica_cmp (λ (q : ReplicaId). q.storage) (λ (e : ReplicaId × Marks). (e.0.block == b) && p e.0.storage e.1)
    (λ e f t u lt.
    lesser_storage e.0 f.0
    (eqb-true e.0.block b (and_parts (e.0.block == b) (p e.0.storage e.1) t).0 ∙ sym (eqb-true f.0.block b (and_parts (f.0.block == b) (p f.0.storage f.1) u).0)) lt) H.replicas.list H.replicas.sorted

-- One block's replicas.

module _ (a : Contents) (lawful : IsLawful a) (pending : Map by_replica ℕ) (b : ℕ) where
  none_held : slot_of a b ≡ None → (s : ℕ) → get (replicas_of a) (replica_at b s) ≡ None
  none_held e s = get-replicas_of a (replica_at b s) ∙ ap (λ o. option_and_then (λ k. marks_at a k s) o) e

  module _ (slot : ℕ) (k : Block) (here : slot_of a b ≡ Some slot) (block_there : block_at a slot ≡ Some k) where
    marks_held : (s : ℕ) → get (replicas_of a) (replica_at b s) ≡ find_marks k.replicas s
    marks_held s = get-replicas_of a (replica_at b s) ∙ ap (λ o. option_and_then (λ x. marks_at a x s) o) here ∙ ap (λ o. option_and_then (λ (z : Block). find_marks z.replicas s) o) block_there

    any_held : (p : ℕ → Marks → Bool) → list_any (λ (e : ReplicaId × Marks). (e.0.block == b) && p e.0.storage e.1) (entries (replicas_of a)) ≡ list_any (λ (r : ℕ × Marks). p r.0 r.1) k.replicas
    any_held p =
        let test : ReplicaId × Marks → Bool = λ e. (e.0.block == b) && p e.0.storage e.1 in
        both_ways (list_any test (entries (replicas_of a))) (list_any (λ (r : ℕ × Marks). p r.0 r.1) k.replicas)
        (λ h.
        let e = each_any (λ (e : ReplicaId × Marks). get (replicas_of a) e.0 ≡ Some e.1) test (entries (replicas_of a)) (each_entry (replicas_of a)) h in
        let two = and_parts (e.0.0.block == b) (p e.0.0.storage e.0.1) e.2 in
        marks_pass (λ (r : ℕ × Marks). p r.0 r.1) k.replicas e.0.0.storage e.0.1
        (sym (marks_held e.0.0.storage) ∙ ap (λ c. get (replicas_of a) (replica_at c e.0.0.storage)) (sym (eqb-true e.0.0.block b two.0)) ∙ e.1) two.1)
        (λ h.
        let r = each_any (λ (r : ℕ × Marks). find_marks k.replicas r.0 ≡ Some r.1) (λ (r : ℕ × Marks). p r.0 r.1) k.replicas (each_marks k.replicas (lawful.once slot k block_there)) h in
        passes_entry (replicas_of a) test (replica_at b r.0.0) r.0.1 (marks_held r.0.0 ∙ r.1) (and_from (b == b) (p r.0.0 r.0.1) (eq-eqb b b refl) r.2))

  -- whether one of the block's replicas passes
  pub any_of_block : (p : ℕ → Marks → Bool)
      → list_any (λ (e : ReplicaId × Marks). (e.0.block == b) && p e.0.storage e.1) (entries (replicas_of a)) ≡ option_map_or (λ slot. list_any (λ (r : ℕ × Marks). p r.0 r.1) (replicas_at a slot)) (slot_of a b) false
  any_of_block p = by (slot_of a b) refl
    where
      by : (o : Option ℕ) → slot_of a b ≡ o → list_any (λ (e : ReplicaId × Marks). (e.0.block == b) && p e.0.storage e.1) (entries (replicas_of a)) ≡ option_map_or (λ slot. list_any (λ (r : ℕ × Marks). p r.0 r.1) (replicas_at a slot)) o false
      by (Some slot) e =
          let f = lawful.found b slot e in
          any_held slot f.1 e f.2 p ∙ ap (λ o. list_any (λ (r : ℕ × Marks). p r.0 r.1) (option_map_or (λ (z : Block). z.replicas) o [])) (sym f.2)
      by None e =
          let test : ReplicaId × Marks → Bool = λ e. (e.0.block == b) && p e.0.storage e.1 in
          both_ways (list_any test (entries (replicas_of a))) false
          (λ h.
          let e' = each_any (λ (e : ReplicaId × Marks). get (replicas_of a) e.0 ≡ Some e.1) test (entries (replicas_of a)) (each_entry (replicas_of a)) h in
          let two = and_parts (e'.0.0.block == b) (p e'.0.0.storage e'.0.1) e'.2 in
          absurd (false≢true (ap is_some (sym (none_held e e'.0.0.storage) ∙ ap (λ c. get (replicas_of a) (replica_at c e'.0.0.storage)) (sym (eqb-true e'.0.0.block b two.0)) ∙ e'.1))))
          (λ h. absurd (false≢true h))

  pub still_stored : (answer : Bool) → answer ≡ option_map_or (λ slot. list_any (λ (r : ℕ × Marks). is_stray r.1.tag) (replicas_at a slot)) (slot_of a b) false → answer ≡ is_still_stored (holdings_with a pending) b
  unfolding is_still_stored holdings_with
  still_stored answer e = e ∙ sym (any_of_block (λ _ m. is_stray m.tag))

  -- The storages of the block's good replicas.

  has_good : (s : ℕ) → has (places (holdings_with a pending) b) s ≡ has (good_storages a b) s
  unfolding holdings_with
  has_good s = by (slot_of a b) refl
    where
      by : (o : Option ℕ) → slot_of a b ≡ o → has (places (holdings_with a pending) b) s ≡ has (option_map_or (λ slot. storages_at (λ _ m. is_good m.tag) (replicas_at a slot)) o []) s
      by None e = has_where (λ _ m. is_good m.tag) (holdings_with a pending) b s ∙ ap (λ o. option_map_or (λ (m : Marks). is_good m.tag) o false) (none_held e s)
      by (Some slot) e =
          let f = lawful.found b slot e in
          alike a pending lawful b slot f.1 e f.2 (λ _ m. is_good m.tag) s ∙ ap (λ o. has (storages_at (λ _ m. is_good m.tag) (option_map_or (λ (z : Block). z.replicas) o [])) s) (sym f.2)

  good_once : Distinct (good_storages a b)
  good_once = by (slot_of a b) refl
    where
      by : (o : Option ℕ) → slot_of a b ≡ o → Distinct (option_map_or (λ slot. storages_at (λ _ m. is_good m.tag) (replicas_at a slot)) o [])
      by None e = tt
      by (Some slot) e =
          let f = lawful.found b slot e in
          let P : Option Block → Type 0 = λ o. Distinct (storages_at (λ _ m. is_good m.tag) (option_map_or (λ (z : Block). z.replicas) o [])) in
          subst P (sym f.2) (passing_distinct (λ _ m. is_good m.tag) f.1.replicas (lawful.once slot f.1 f.2))

  pub sorted_places : (xs ys : List ℕ) → xs ≡ good_storages a b → IsPermutation xs ys → IsSortedByKey (λ (n : ℕ). n) nat_cmp ys → ys ≡ places (holdings_with a pending) b
  sorted_places xs ys is moved sorted =
      let P : List ℕ → Type 0 = λ l. IsPermutation l ys in
      same_numbers (good_storages a b) ys (places (holdings_with a pending) b) good_once (λ x t. has_good x ∙ among_has (good_storages a b) x t) (λ x t. has_among (good_storages a b) x (sym (has_good x) ∙ t))
      (subst P is moved) sorted (where_ascend (λ _ m. is_good m.tag) (holdings_with a pending) b)

-- Whether the block is known.

pub known : (a : Contents) (pending : Map by_replica ℕ) (b : ℕ) (answer : Bool) → answer ≡ option_map_or (λ slot. is_some (info_at a slot)) (slot_of a b) false → answer ≡ knows_block (holdings_with a pending) b
unfolding knows_block holdings_with
known a pending b answer e = e ∙ by (slot_of a b) ∙ ap is_some (sym (get-blocks_of a b))
  where
    by : (o : Option ℕ) → option_map_or (λ slot. is_some (info_at a slot)) o false ≡ is_some (option_and_then (λ slot. info_at a slot) o)
    by None = refl
    by (Some slot) = refl
