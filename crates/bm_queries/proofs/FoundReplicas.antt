-- The passing replicas at an arena's slots, once sorted, are those of its map, each once.
use Rattle.std.proofs.Common.{◌≡◌, ◌≢◌, ℕ, Bool, true, false, cond, ◌&&◌, ◌||◌, List, [], ◌∷◌, ◌++◌, map, filter, Some, refl, sym, ap, subst, inl, inr, ◌∙◌, eqb-true, eq-eqb}
use Rattle.std.specs.Prelude.{◌==◌, option_and_then}
use Rattle.std.specs.Ordering.{eq_by_cmp}
use Rattle.std.specs.List.{list_any}
use Rattle.std.specs.List.Sorted.{IsSortedByKey, IsPermutation}
use Rattle.std.proofs.lemmas.Bool.{and_from, or_left, or_right}
use Rattle.bm_base.specs.declared.replica.ReplicaId.{ReplicaId}
use Rattle.bm_base.specs.declared.replica.Replica.{Replica}
use Rattle.bm_base.specs.declared.replica.Marks.{Marks}
use Rattle.bm_base.specs.Words.{Map, get, entries, by_replica, replica_at, replica_cmp}
use Rattle.bm_maps.specs.SlotLists.{IsMember, Distinct}
use Rattle.bm_base.proofs.ForEach.{Each, each_of, each_then, each_both, each_mapped, each_filtered, each_passing, each_flat}
use Rattle.bm_base.proofs.MapEntries.{key_itself, not_tied, each_entry, passes_entry}
use Rattle.bm_base.proofs.Options.{chained}
use Rattle.bm_arena.specs.Triplets.{Block}
use Rattle.bm_arena.specs.Contents.{Contents, block_at, slot_of, marks_at, find_marks, IsLawful}
use Rattle.bm_arena.specs.HeldMaps.{replicas_of}
use Rattle.bm_arena.proofs.HeldReplicas.{get-replicas_of}
use Rattle.bm_parts.specs.Findings.{IsGathered}
use Rattle.bm_parts.specs.QueryLaws.{replica_key}
use Rattle.bm_parts.proofs.Filters.{any_shown, all_each, filter_all}
use Rattle.std.proofs.lemmas.Simd.{map-map}
use Rattle.bm_parts.proofs.JoinedReplicas.{listed_ascends}
use Rattle.bm_parts.proofs.FoundLists.{any_flat_at}
use Rattle.bm_levels.specs.IndexedLevels.{indexed_slots}
use Rattle.bm_queries.specs.ListedElements.{replica_view, listed_at, listed_on, replicas_passing}
use Rattle.bm_queries.proofs.DistinctKeys.{AreApart, IsNew, apart_append, sorted_alike}
use Rattle.bm_queries.proofs.GatheredReplicas.{those}
use Rattle.bm_queries.proofs.IndexedSlots.{IsOwn, led_once, led_own, has_led}

abbrev keys_at : List (ℕ × Marks) → List ℕ
keys_at rs = map (λ (r : ℕ × Marks). r.0) rs

-- Replicas of one block.

other_storages : (s : ℕ) (rs : List (ℕ × Marks)) → (IsMember s (keys_at rs) → ⊥) → Each (λ (r : ℕ × Marks). s ≢ r.0) rs
other_storages s [] h = tt
other_storages s (r ∷ rs) h = (λ same. h (inl same), other_storages s rs (λ there. h (inr there)))

-- a search for the storage of a replica finds the replica
pub each_marks : (rs : List (ℕ × Marks)) → Distinct (keys_at rs) → Each (λ (r : ℕ × Marks). find_marks rs r.0 ≡ Some r.1) rs
each_marks [] h = tt
each_marks (r ∷ rs) h = (
  ap (λ b. cond b (Some r.1) (find_marks rs r.0)) (eq-eqb r.0 r.0 refl),
  each_then (λ (q : ℕ × Marks). (find_marks rs q.0 ≡ Some q.1) × (r.0 ≢ q.0)) (λ (q : ℕ × Marks). find_marks (r ∷ rs) q.0 ≡ Some q.1) rs
      (each_both (λ (q : ℕ × Marks). find_marks rs q.0 ≡ Some q.1) (λ (q : ℕ × Marks). r.0 ≢ q.0) rs (each_marks rs h.1) (other_storages r.0 rs h.0))
      (λ q g. by (r.0 == q.0) refl g.1 g.0),
)
  where
    by : {q : ℕ × Marks} (b : Bool) → (r.0 == q.0) ≡ b → r.0 ≢ q.0 → find_marks rs q.0 ≡ Some q.1 → cond b (Some r.1) (find_marks rs q.0) ≡ Some q.1
    by {q} true e ne g = absurd (ne (eqb-true r.0 q.0 e))
    by {q} false e ne g = g

-- a replica that a search finds is in the list
pub marks_pass : (test : ℕ × Marks → Bool) (rs : List (ℕ × Marks)) (s : ℕ) (m : Marks) → find_marks rs s ≡ Some m → test (s, m) ≡ true → list_any test rs ≡ true
marks_pass test [] s m e h = cc
marks_pass test (r ∷ rs) s m e h = by (r.0 == s) refl e (marks_pass test rs s m)
  where
    by : (b : Bool) → (r.0 == s) ≡ b → cond b (Some r.1) (find_marks rs s) ≡ Some m → (find_marks rs s ≡ Some m → test (s, m) ≡ true → list_any test rs ≡ true) → (test r || list_any test rs) ≡ true
    by true t f rest =
        let marks : r.1 ≡ m = (cc) in
        or_left (test r) (list_any test rs) ((λ i. test (eqb-true r.0 s t i, marks i)) ∙ h)
    by false t f rest = or_right (test r) (list_any test rs) (rest f h)

module _ (p : Marks → Bool) (id : ℕ) where
  those_new : (r : ℕ × Marks) (rs : List (ℕ × Marks)) → (IsMember r.0 (keys_at rs) → ⊥) → IsNew by_replica replica_key (replica_view id r) (those p id rs)
  those_new r rs absent =
      let test : Replica → Type 0 = λ y. eq_by_cmp replica_cmp (replica_at id r.0) (replica_key y) ≡ false in
      each_mapped test (replica_view id) (filter (λ (r : ℕ × Marks). p r.1) rs)
      (each_filtered (λ (q : ℕ × Marks). test (replica_view id q)) (λ (r : ℕ × Marks). p r.1) rs
      (each_then (λ (q : ℕ × Marks). r.0 ≢ q.0) (λ (q : ℕ × Marks). test (replica_view id q)) rs (other_storages r.0 rs absent)
      (λ q ne. not_tied by_replica (replica_at id r.0) (replica_at id q.0) (λ same. ne (ap (λ (k : ReplicaId). k.storage) same)))))

  those_apart : (rs : List (ℕ × Marks)) → Distinct (keys_at rs) → AreApart by_replica replica_key (those p id rs)
  those_apart [] h = tt
  those_apart (r ∷ rs) h = by (p r.1) (those_apart rs h.1)
    where
      by : (b : Bool) → AreApart by_replica replica_key (those p id rs) → AreApart by_replica replica_key (map (replica_view id) (cond b (r ∷ filter (λ (r : ℕ × Marks). p r.1) rs) (filter (λ (r : ℕ × Marks). p r.1) rs)))
      by true rest = (those_new r rs h.0, rest)
      by false rest = rest

  those_of : (rs : List (ℕ × Marks)) → Each (λ (y : Replica). y.block ≡ id) (those p id rs)
  those_of rs = each_mapped (λ (y : Replica). y.block ≡ id) (replica_view id) (filter (λ (r : ℕ × Marks). p r.1) rs) (each_of (λ (r : ℕ × Marks). id ≡ id) (filter (λ (r : ℕ × Marks). p r.1) rs) (λ _. refl))

-- Replicas of all blocks.

-- a replica that the map has and that passes, as a query shows it
abbrev IsListed : (Marks → Bool) → Map by_replica Marks → Replica → Type 0
IsListed p m r = (k : Marks) × (get m (replica_key r) ≡ Some k) × (p k ≡ true) × (r.tag ≡ k.tag)

module _ (p : Marks → Bool) (a : Contents) (lawful : IsLawful a) where
  abbrev at_slot : ℕ → List Replica
  at_slot slot = listed_at p (block_at a slot)

  abbrev IsIn : Replica → Type 0
  IsIn r = IsListed p (replicas_of a) r

  -- the marks of a replica are those at the slot of its block
  marks_of : (slot : ℕ) (b : Block) → block_at a slot ≡ Some b → slot_of a b.id ≡ Some slot → (s : ℕ) → get (replicas_of a) (replica_at b.id s) ≡ find_marks b.replicas s
  marks_of slot b here led s =
      get-replicas_of a (replica_at b.id s) ∙ ap (λ o. option_and_then (λ x. marks_at a x s) o) led ∙ ap (λ o. option_and_then (λ (z : Block). find_marks z.replicas s) o) here

  only_at : (slot : ℕ) → IsOwn a slot → Each IsIn (at_slot slot)
  only_at slot own =
      let b = own.block in
      let found : ℕ × Marks → Type 0 = λ r. find_marks b.replicas r.0 ≡ Some r.1 in
      let passes : ℕ × Marks → Bool = λ r. p r.1 in
      subst (λ o. Each IsIn (listed_at p o)) (sym own.here)
      (each_mapped IsIn (replica_view b.id) (filter passes b.replicas)
      (each_then (λ r. found r × (passes r ≡ true)) (λ r. IsIn (replica_view b.id r)) (filter passes b.replicas)
      (each_both found (λ r. passes r ≡ true) (filter passes b.replicas) (each_filtered found passes b.replicas (each_marks b.replicas (lawful.once slot b own.here))) (each_passing passes b.replicas))
      (λ r h. (r.1, marks_of slot b own.here own.led r.0 ∙ h.0, h.1, refl))))

  only_on : (slots : List ℕ) → Each (IsOwn a) slots → Each IsIn (listed_on p a slots)
  only_on slots own = each_flat IsIn at_slot slots (each_then (IsOwn a) (λ slot. Each IsIn (at_slot slot)) slots own only_at)

  -- the replicas at other slots are of other blocks
  others : (slot id : ℕ) → slot_of a id ≡ Some slot → (slots : List ℕ) → (IsMember slot slots → ⊥) → Each (IsOwn a) slots → Each (λ t. Each (λ (y : Replica). y.block ≢ id) (at_slot t)) slots
  others slot id led [] absent own = tt
  others slot id led (t ∷ slots) absent own = (
    subst (λ o. Each (λ (y : Replica). y.block ≢ id) (listed_at p o)) (sym own.0.here)
        (each_then (λ (y : Replica). y.block ≡ own.0.block.id) (λ (y : Replica). y.block ≢ id) (those p own.0.block.id own.0.block.replicas) (those_of p own.0.block.id own.0.block.replicas)
        (λ y is same. absent (inl (one (sym led ∙ ap (slot_of a) (sym same ∙ is) ∙ own.0.led))))),
    others slot id led slots (λ there. absent (inr there)) own.1,
  )
    where
      one : {x y : ℕ} → Some x ≡ Some y → x ≡ y
      one e = cc

  apart_on : (slots : List ℕ) → Distinct slots → Each (IsOwn a) slots → AreApart by_replica replica_key (listed_on p a slots)
  apart_on [] distinct own = tt
  apart_on (slot ∷ slots) distinct own =
      let b = own.0.block in
      let rest = listed_on p a slots in
      let others_of : Each (λ (y : Replica). y.block ≢ b.id) rest = each_flat (λ (y : Replica). y.block ≢ b.id) at_slot slots (others slot b.id own.0.led slots distinct.0 own.1) in
      subst (λ o. AreApart by_replica replica_key (listed_at p o ++ rest)) (sym own.0.here)
      (apart_append by_replica replica_key (those p b.id b.replicas) rest (those_apart p b.id b.replicas (lawful.once slot b own.0.here)) (apart_on slots distinct.1 own.1)
      (each_then (λ (x : Replica). x.block ≡ b.id) (λ x. IsNew by_replica replica_key x rest) (those p b.id b.replicas) (those_of p b.id b.replicas)
      (λ x is.
      each_then (λ (y : Replica). y.block ≢ b.id) (λ y. eq_by_cmp replica_cmp (replica_key x) (replica_key y) ≡ false) rest others_of
      (λ y ne. not_tied by_replica (replica_key x) (replica_key y) (λ same. ne (sym (ap (λ (k : ReplicaId). k.block) same) ∙ is))))))

  all_on : (x : Replica) → IsIn x → list_any (λ y. eq_by_cmp replica_cmp (replica_key x) (replica_key y)) (listed_on p a (indexed_slots a)) ≡ true
  all_on x is =
      let test : Replica → Bool = λ y. eq_by_cmp replica_cmp (replica_key x) (replica_key y) in
      let h = chained (λ slot. marks_at a slot x.storage) (slot_of a x.block) is.0 (sym (get-replicas_of a (replica_key x)) ∙ is.1) in
      let f = lawful.found x.block h.0 h.1 in
      let b = f.1 in
      let marks : find_marks b.replicas x.storage ≡ Some is.0 = sym (ap (λ o. option_and_then (λ (z : Block). find_marks z.replicas x.storage) o) f.2) ∙ h.2 in
      any_flat_at test at_slot (indexed_slots a) h.0 (has_led a lawful x.block h.0 h.1)
      (ap (λ o. list_any test (listed_at p o)) f.2
      ∙ any_shown test (replica_view b.id) (λ (r : ℕ × Marks). p r.1) b.replicas
      ∙ marks_pass (λ (r : ℕ × Marks). p r.1 && test (replica_view b.id r)) b.replicas x.storage is.0 marks
      (and_from (p is.0) (test (replica_view b.id (x.storage, is.0))) is.2 (ap (λ k. eq_by_cmp replica_cmp (replica_key x) (replica_at k x.storage)) f.3 ∙ key_itself by_replica (replica_key x))))

module _ (p : Marks → Bool) (m : Map by_replica Marks) where
  abbrev as_replica : ReplicaId × Marks → Replica
  as_replica e = record { block = e.0.block; storage = e.0.storage; tag = e.1.tag }

  passing_gathered : IsGathered by_replica replica_key (IsListed p m) (replicas_passing p m)
  unfolding entries
  passing_gathered =
      let passes : ReplicaId × Marks → Bool = λ e. p e.1 in
      let found : ReplicaId × Marks → Type 0 = λ e. get m e.0 ≡ Some e.1 in
      record {
        ascends = listed_ascends replica_cmp as_replica passes replica_key (λ _. refl) m.list m.sorted;
        only =
            all_each (IsListed p m) (replicas_passing p m)
            (each_mapped (IsListed p m) as_replica (filter passes (entries m))
            (each_then (λ e. found e × (passes e ≡ true)) (λ e. IsListed p m (as_replica e)) (filter passes (entries m))
            (each_both found (λ e. passes e ≡ true) (filter passes (entries m)) (each_filtered found passes (entries m) (each_entry m)) (each_passing passes (entries m)))
            (λ e h. (e.1, h.0, h.1, refl))));
        all = λ x is.
            any_shown (λ y. eq_by_cmp replica_cmp (replica_key x) (replica_key y)) as_replica passes (entries m)
            ∙ passes_entry m (λ e. passes e && eq_by_cmp replica_cmp (replica_key x) e.0) (replica_key x) is.0 is.1 (and_from (p is.0) (eq_by_cmp replica_cmp (replica_key x) (replica_key x)) is.2 (key_itself by_replica (replica_key x)));
      }

  one_replica : (x y : Replica) → IsListed p m x → IsListed p m y → replica_key x ≡ replica_key y → x ≡ y
  one_replica x y is too same =
      let marks : is.0 ≡ too.0 = some (sym is.1 ∙ ap (get m) same ∙ too.1) in
      let tags : x.tag ≡ y.tag = is.3 ∙ ap (λ (k : Marks). k.tag) marks ∙ sym too.3 in
      λ i. record { block = (same i).block; storage = (same i).storage; tag = tags i }
    where
      some : {k l : Marks} → Some k ≡ Some l → k ≡ l
      some e = cc

-- the replicas found at the slots, sorted
pub sorted_replicas : (p : Marks → Bool) (a : Contents) → IsLawful a → (ys : List Replica) → IsPermutation (listed_on p a (indexed_slots a)) ys → IsSortedByKey replica_key replica_cmp ys → ys ≡ replicas_passing p (replicas_of a)
sorted_replicas p a lawful ys moved sorted =
    let m = replicas_of a in
    let slots = indexed_slots a in
    let own = led_own a lawful in
    sorted_alike by_replica replica_key (IsListed p m) (one_replica p m) (listed_on p a slots) ys (replicas_passing p m) (apart_on p a lawful slots (led_once a lawful) own) (only_on p a lawful slots own) (all_on p a lawful) moved sorted (passing_gathered p m)

pub all_passing : (m : Map by_replica Marks) → replicas_passing (λ _. true) m ≡ map (λ (e : ReplicaId × Marks). record { block = e.0.block; storage = e.0.storage; tag = e.1.tag }) (entries m)
all_passing m = ap (map (λ (e : ReplicaId × Marks). record { block = e.0.block; storage = e.0.storage; tag = e.1.tag })) (filter_all (entries m))

pub ids_passing : (p : Marks → Bool) (m : Map by_replica Marks) → map replica_key (replicas_passing p m) ≡ map (λ (e : ReplicaId × Marks). e.0) (filter (λ (e : ReplicaId × Marks). p e.1) (entries m))
ids_passing p m = map-map replica_key (λ (e : ReplicaId × Marks). record { block = e.0.block; storage = e.0.storage; tag = e.1.tag }) (filter (λ (e : ReplicaId × Marks). p e.1) (entries m))
