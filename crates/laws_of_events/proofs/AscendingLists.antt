-- The lists that queries return are strictly ascending, so none has duplicates.
use Rattle.std.proofs.Common.{◌≡◌, ℕ, zero, suc, ◌<◌, Bool, true, false, cond, ◌&&◌, List, [], ◌∷◌, map, filter, length, AllPairs, inl, inr, refl, sym, subst, ◌∙◌, map-id, T, Ordering, Less, Equal, Greater, eqb-true, arith}
use Rattle.bm_parts.specs.QueryLaws.{replica_key}
use Rattle.std.specs.Prelude.{◌==◌, slice_index_or}
use Rattle.std.specs.Ordering.{nat_cmp, ordering_then}
use Rattle.std.specs.Cmp.{ranked}
use Rattle.std.specs.FinMap.{is_sorted}
use Rattle.std.specs.FinMap.Entries.{below_all}
use Rattle.std.proofs.lemmas.Bool.{and_parts}
use Rattle.bm_base.specs.declared.replica.ReplicaId.{ReplicaId}
use Rattle.bm_base.specs.declared.replica.Marks.{Marks}
use Rattle.bm_base.specs.Maps.Conjunction.{first, second}
use Rattle.bm_base.specs.declared.replica.Level.TheVariants.{NoUsableReplica}
use Rattle.bm_base.specs.Words.{Map, Order, by_number, entries, keys, Cluster, Holdings, by_replica, replica_cmp, is_good, is_corrupt, storages_where, level, is_at, all_replicas, replicas_where, missing_blocks, blocks_on}
use Rattle.bm_base.proofs.ForEach.{Each, each_mapped, each_then, each_filtered, each_passing, each_both}
use Rattle.bm_base.proofs.Orderings.{is_less}
use Rattle.laws_of_events.specs.Queries as law

-- each item is before all later ones
abbrev Rise : {X : Type 0} → (X → X → Type 0) → List X → Type 0
Rise B [] = Unit {0}
Rise B (x ∷ xs) = Each (B x) xs × Rise B xs

each_at : {X : Type 0} (P : X → Type 0) (xs : List X) → Each P xs → (k : ℕ) (d : X) → k < length xs → P (slice_index_or xs k d)
each_at P [] h k d lt = absurd (omega arith)
each_at P (x ∷ xs) h zero d lt = h.0
each_at P (x ∷ xs) h (suc k) d lt = each_at P xs h.1 k d (omega arith)

ascend_pairs : {X : Type 0} (B : X → X → Type 0) (xs : List X) → Rise B xs → AllPairs B xs
ascend_pairs B [] h i j d lt within = absurd (omega arith)
ascend_pairs B (x ∷ xs) h zero zero d lt within = absurd (omega arith)
ascend_pairs B (x ∷ xs) h zero (suc j) d lt within = each_at (B x) xs h.0 j d (omega arith)
ascend_pairs B (x ∷ xs) h (suc i) zero d lt within = absurd (omega arith)
ascend_pairs B (x ∷ xs) h (suc i) (suc j) d lt within = ascend_pairs B xs h.1 i j d (omega arith) (omega arith)

ascend_mapped : {X Y : Type 0} (B : X → X → Type 0) (D : Y → Y → Type 0) (f : X → Y) → ((x y : X) → B x y → D (f x) (f y)) → (xs : List X) → Rise B xs → Rise D (map f xs)
ascend_mapped B D f g [] h = tt
ascend_mapped B D f g (x ∷ xs) h = (each_mapped (D (f x)) f xs (each_then (B x) (λ y. D (f x) (f y)) xs h.0 (g x)), ascend_mapped B D f g xs h.1)

-- a filter keeps the order, and all that it keeps passes
abbrev BothPass : {X : Type 0} → (X → Bool) → (X → X → Type 0) → X → X → Type 0
BothPass p B x y = (p x ≡ true) × (p y ≡ true) × B x y

passing_head : {X : Type 0} (B : X → X → Type 0) (p : X → Bool) (x : X) (b : Bool) (xs : List X) → p x ≡ b → Each (λ y. p y ≡ true) xs → Each (B x) xs → Rise (BothPass p B) xs → Rise (BothPass p B) (cond b (x ∷ xs) xs)
passing_head B p x true xs e all h r = (each_then (λ y. (p y ≡ true) × B x y) (BothPass p B x) xs (each_both (λ y. p y ≡ true) (B x) xs all h) (λ y g. (e, g.0, g.1)), r)
passing_head B p x false xs e all h r = r

ascend_filtered : {X : Type 0} (B : X → X → Type 0) (p : X → Bool) (xs : List X) → Rise B xs → Rise (BothPass p B) (filter p xs)
ascend_filtered B p [] h = tt
ascend_filtered B p (x ∷ xs) h = passing_head B p x (p x) (filter p xs) refl (each_passing p xs) (each_filtered (B x) p xs h.0) (ascend_filtered B p xs h.1)

-- Entries are ascending.

module _ {K X : Type 0} (R : K → K → Ordering) where
  below_each : (k : K) (es : List (K × X)) → T (below_all R k es) → Each (λ e. R k e.0 ≡ Less) es
  below_each k [] h = tt
  below_each k (e ∷ es) h = (is_less (R k e.0) (first _ _ h), below_each k es (second _ _ h))

  sorted_ascend : (es : List (K × X)) → T (is_sorted R es) → Rise (λ e f. R e.0 f.0 ≡ Less) es
  sorted_ascend [] h = tt
  sorted_ascend (e ∷ es) h = (below_each e.0 es (first _ _ h), sorted_ascend es (second _ _ h))

entries_ascend : {K X : Type 0} (o : Order K) (m : Map o X) → Rise (λ e f. o.cmp e.0 f.0 ≡ Less) (entries m)
unfolding entries
entries_ascend o m = sorted_ascend o.cmp m.list m.sorted

before_by : (p q : ReplicaId) (r : Ordering) → nat_cmp p.block q.block ≡ r → ordering_then r (nat_cmp p.storage q.storage) ≡ Less → law.IsBefore p q
before_by p q Less e h = inl (ranked p.block q.block Less (sym e))
before_by p q Equal e h = inr (ranked p.block q.block Equal (sym e), ranked p.storage q.storage Less (sym h))
before_by p q Greater e h = cc

before : (p q : ReplicaId) → replica_cmp p q ≡ Less → law.IsBefore p q
before p q h = before_by p q (nat_cmp p.block q.block) refl h

replicas_ascend : (H : Holdings) → Rise (λ e f. law.IsBefore e.0 f.0) (entries H.replicas)
replicas_ascend H = subst (Rise (λ e f. law.IsBefore e.0 f.0)) (map-id (entries H.replicas)) (ascend_mapped (λ e f. replica_cmp e.0 f.0 ≡ Less) (λ e f. law.IsBefore e.0 f.0) (λ e. e) (λ e f. before e.0 f.0) (entries H.replicas) (entries_ascend by_replica H.replicas))

-- The queries.

all_ascend : (H : Holdings) → AllPairs (λ q r. law.IsBefore (replica_key q) (replica_key r)) (all_replicas H)
unfolding all_replicas
all_ascend H = ascend_pairs _ (all_replicas H) (ascend_mapped (λ e f. law.IsBefore e.0 f.0) (λ q r. law.IsBefore (replica_key q) (replica_key r)) (λ e. record { block = e.0.block; storage = e.0.storage; tag = e.1.tag }) (λ e f h. h) (entries H.replicas) (replicas_ascend H))

where_ascend : (test : Marks → Bool) (H : Holdings) → AllPairs law.IsBefore (replicas_where test H)
unfolding replicas_where
where_ascend test H =
    let p : ReplicaId × Marks → Bool = λ e. test e.1 in
    ascend_pairs law.IsBefore (replicas_where test H)
    (ascend_mapped (BothPass p (λ e f. law.IsBefore e.0 f.0)) law.IsBefore (λ e. e.0) (λ e f h. h.2) (filter p (entries H.replicas)) (ascend_filtered (λ e f. law.IsBefore e.0 f.0) p (entries H.replicas) (replicas_ascend H)))

-- replicas of one storage are ordered by block, those of one block by storage
block_ascends : (p q : ReplicaId) → law.IsBefore p q → p.storage ≡ q.storage → p.block < q.block
block_ascends p q (inl lt) e = lt
block_ascends p q (inr h) e = absurd (let lt = h.1 in omega (arith, lt, e))

storage_ascends : (p q : ReplicaId) → law.IsBefore p q → p.block ≡ q.block → p.storage < q.storage
storage_ascends p q (inl lt) e = absurd (omega (arith, lt, e))
storage_ascends p q (inr h) e = h.1

blocks_ascend : (H : Holdings) (s : ℕ) → AllPairs (λ b c. b < c) (blocks_on H s)
unfolding blocks_on
blocks_ascend H s =
    let p : ReplicaId × Marks → Bool = λ e. e.0.storage == s in
    ascend_pairs (λ b c. b < c) (blocks_on H s)
    (ascend_mapped (BothPass p (λ e f. law.IsBefore e.0 f.0)) (λ b c. b < c) (λ e. e.0.block) (λ e f h. block_ascends e.0 f.0 h.2 (eqb-true e.0.storage s h.0 ∙ sym (eqb-true f.0.storage s h.1)))
    (filter p (entries H.replicas)) (ascend_filtered (λ e f. law.IsBefore e.0 f.0) p (entries H.replicas) (replicas_ascend H)))

places_ascend : (test : ℕ → Marks → Bool) (H : Holdings) (b : ℕ) → AllPairs (λ s t. s < t) (storages_where test H b)
unfolding storages_where
places_ascend test H b =
    let p : ReplicaId × Marks → Bool = λ e. (e.0.block == b) && test e.0.storage e.1 in
    ascend_pairs (λ s t. s < t) (storages_where test H b)
    (ascend_mapped (BothPass p (λ e f. law.IsBefore e.0 f.0)) (λ s t. s < t) (λ e. e.0.storage)
    (λ e f h. storage_ascends e.0 f.0 h.2 (eqb-true e.0.block b (and_parts (e.0.block == b) (test e.0.storage e.1) h.0).0 ∙ sym (eqb-true f.0.block b (and_parts (f.0.block == b) (test f.0.storage f.1) h.1).0)))
    (filter p (entries H.replicas)) (ascend_filtered (λ e f. law.IsBefore e.0 f.0) p (entries H.replicas) (replicas_ascend H)))

missing_ascend : (C : Cluster) (H : Holdings) → AllPairs (λ b c. b < c) (missing_blocks C H)
unfolding missing_blocks keys
missing_ascend C H =
    let p : ℕ → Bool = λ b. is_at NoUsableReplica (level C H b) in
    let all : Rise (λ b c. b < c) (map (λ e. e.0) (entries H.blocks)) =
    ascend_mapped (λ e f. nat_cmp e.0 f.0 ≡ Less) (λ b c. b < c) (λ e. e.0) (λ e f h. ranked e.0 f.0 Less (sym h)) (entries H.blocks) (entries_ascend by_number H.blocks) in
    ascend_pairs (λ b c. b < c) (missing_blocks C H)
    (subst (Rise (λ b c. b < c)) (map-id (missing_blocks C H))
    (ascend_mapped (BothPass p (λ b c. b < c)) (λ b c. b < c) (λ b. b) (λ b c h. h.2) (filter p (map (λ e. e.0) (entries H.blocks))) (ascend_filtered (λ b c. b < c) p (map (λ e. e.0) (entries H.blocks)) all)))

pub all_lists_ascend : law.lists_ascend
all_lists_ascend C H = record {
  replicas = all_ascend H;
  corrupt = where_ascend (λ m. is_corrupt m.tag) H;
  excess = where_ascend (λ m. m.excess) H;
  missing = missing_ascend C H;
  blocks = blocks_ascend H;
  places_of = places_ascend (λ _ m. is_good m.tag) H;
}
