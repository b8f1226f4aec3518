-- The storages whose replica of a block passes a test depend only on the block's own replicas.
use Rattle.std.proofs.Common.{◌≡◌, ℕ, ◌≤◌, Bool, true, false, not, ◌&&◌, Option, Some, None, map, filter, length, arith, refl, sym, ap, ◌∙◌, eqb-true, eq-eqb, true≢false}
use Rattle.std.specs.Prelude.{◌==◌, option_and_then}
use Rattle.std.specs.List.{list_any}
use Rattle.std.proofs.lemmas.Simd.{map-map}
use Rattle.std.proofs.lemmas.List.{length-map}
use Rattle.std.proofs.lemmas.Bool.{and_from, and_right}
use Rattle.bm_base.specs.declared.replica.ReplicaId.{ReplicaId}
use Rattle.bm_base.specs.declared.replica.Marks.{Marks}
use Rattle.bm_base.specs.Words.{Map, Order, get, keep, revise, entries, Holdings, by_replica, replica_at, is_usable, storages_where, usable, without_storages}
use Rattle.bm_base.proofs.MapLaws.{same_map, get-keep, entries-keep, entries-revise}
use Rattle.bm_base.proofs.ListTests.{filter_filter}
use Rattle.bm_parts.proofs.ChosenCopies.{HasOne, each_storage}
use Rattle.bm_base.proofs.ForEach.{Each, each_then}
use Rattle.bm_base.proofs.MapEntries.{each_entry, passes_entry}
use Rattle.bm_parts.proofs.Filters.{filtered_alike, fewer_passing, map_filter, any_shown}
use Rattle.bm_parts.proofs.PartMaps.{part, part_same}

-- Once storages are gone, those that pass p are those that passed q before, if q is p without the
-- storages that are gone.
module _ (H : Holdings) (gone : ℕ → Bool) (p q : ℕ → Marks → Bool) (b : ℕ) (same : (s : ℕ) (m : Marks) → get H.replicas (replica_at b s) ≡ Some m → (not (gone s) && p s m) ≡ q s m) where
  at_entry : (k : ReplicaId) (m : Marks) (t : Bool) → (k.block == b) ≡ t → get H.replicas k ≡ Some m → (not (gone k.storage) && (t && p k.storage m)) ≡ (t && q k.storage m)
  at_entry k m true e is = same k.storage m (ap (λ c. get H.replicas (replica_at c k.storage)) (sym (eqb-true k.block b e)) ∙ is)
  at_entry k m false e is = and_right (not (gone k.storage)) false refl

  pub storages_left : storages_where p (without_storages H gone) b ≡ storages_where q H b
  unfolding storages_where without_storages
  storages_left =
      let test : ReplicaId × Marks → Bool = λ e. (e.0.block == b) && p e.0.storage e.1 in
      let stays : ReplicaId × Marks → Bool = λ e. not (gone e.0.storage) in
      let lists : filter test (entries (keep H.replicas (λ k _. not (gone k.storage)))) ≡ filter (λ e. (e.0.block == b) && q e.0.storage e.1) (entries H.replicas) =
      ap (filter test) (entries-keep by_replica H.replicas (λ k _. not (gone k.storage))) ∙ filter_filter test stays (entries H.replicas)
      ∙ filtered_alike (λ e. stays e && test e) (λ e. (e.0.block == b) && q e.0.storage e.1) (entries H.replicas)
      (each_then (λ e. get H.replicas e.0 ≡ Some e.1) (λ e. (stays e && test e) ≡ ((e.0.block == b) && q e.0.storage e.1)) (entries H.replicas) (each_entry H.replicas) (λ e is. at_entry e.0 e.1 (e.0.block == b) refl is)) in
      ap (map (λ e. e.0.storage)) lists

-- if nothing leaves, the map stays
all_kept : {K X : Type 0} {o : Order K} (m : Map o X) → keep m (λ _ _. true) ≡ m
all_kept m = same_map (keep m (λ _ _. true)) m (λ q. get-keep m (λ _ _. true) q ∙ itself (get m q))
  where
    itself : {Y : Type 0} (z : Option Y) → option_and_then (λ x. Some x) z ≡ z
    itself None = refl
    itself (Some x) = refl

pub none_leaves : (H : Holdings) → without_storages H (λ _. false) ≡ H
unfolding without_storages
none_leaves H = λ i. record H { replicas = all_kept H.replicas i; pending = all_kept H.pending i }

-- a property of the storages of the block's replicas that pass
pub each_where : (P : ℕ → Type 0) (p : ℕ → Marks → Bool) (H : Holdings) (b : ℕ) → ((s : ℕ) (m : Marks) → get H.replicas (replica_at b s) ≡ Some m → p s m ≡ true → P s) → Each P (storages_where p H b)
each_where P p H b holds = each_then (HasOne p H b) P (storages_where p H b) (each_storage p H b) (λ s one. holds s one.0 one.1 one.2)

-- if t holds of none of the storages of the block's usable replicas, it fails for each of them
pub usable_fails : (t : ℕ → Bool) (H : Holdings) (b s : ℕ) (m : Marks) → list_any t (usable H b) ≡ false → get H.replicas (replica_at b s) ≡ Some m → is_usable m ≡ true → t s ≡ false
unfolding storages_where
usable_fails t H b s m none there can = by_test (t s) refl
  where
    by_test : (c : Bool) → t s ≡ c → c ≡ false
    by_test false e = refl
    by_test true e =
        let one = passes_entry H.replicas (λ e. ((e.0.block == b) && is_usable e.1) && t e.0.storage) (replica_at b s) m there (and_from ((b == b) && is_usable m) (t s) (and_from (b == b) (is_usable m) (eq-eqb b b refl) can) e) in
        absurd (true≢false (sym one ∙ sym (any_shown t (λ (e : ReplicaId × Marks). e.0.storage) (λ e. (e.0.block == b) && is_usable e.1) (entries H.replicas)) ∙ none))

-- a block's storages after marks changed, if the test ignores the change
pub storages_revised : (H : Holdings) (f : ReplicaId → Marks → Marks) (p : ℕ → Marks → Bool) (b : ℕ) → ((q : ReplicaId) (m : Marks) → q.block ≡ b → get H.replicas q ≡ Some m → p q.storage (f q m) ≡ p q.storage m)
    → storages_where p (record H { replicas = revise H.replicas f }) b ≡ storages_where p H b
unfolding storages_where
storages_revised H f p b same =
    let changed : ReplicaId × Marks → ReplicaId × Marks = λ e. (e.0, f e.0 e.1) in
    let test : ReplicaId × Marks → Bool = λ e. (e.0.block == b) && p e.0.storage e.1 in
    ap (λ es. map (λ (e : ReplicaId × Marks). e.0.storage) (filter test es)) (entries-revise by_replica H.replicas f)
    ∙ ap (map (λ (e : ReplicaId × Marks). e.0.storage)) (map_filter changed test (entries H.replicas))
    ∙ map-map (λ (e : ReplicaId × Marks). e.0.storage) changed (filter (λ e. test (changed e)) (entries H.replicas))
    ∙ ap (map (λ (e : ReplicaId × Marks). e.0.storage))
    (filtered_alike (λ e. test (changed e)) test (entries H.replicas)
    (each_then (λ e. get H.replicas e.0 ≡ Some e.1) (λ e. test (changed e) ≡ test e) (entries H.replicas) (each_entry H.replicas) (λ e there. passes e there (e.0.block == b) refl)))
  where
    passes : (e : ReplicaId × Marks) → get H.replicas e.0 ≡ Some e.1 → (t : Bool) → (e.0.block == b) ≡ t → (t && p e.0.storage (f e.0 e.1)) ≡ (t && p e.0.storage e.1)
    passes e there true is = same e.0 e.1 (eqb-true e.0.block b is) there
    passes e there false is = refl

own_replicas : (p : ℕ → Marks → Bool) (K : Holdings) (b : ℕ) → storages_where p K b ≡ map (λ (e : ReplicaId × Marks). e.0.storage) (filter (λ e. p e.0.storage e.1) (entries (part (λ q. q.block == b) K.replicas)))
unfolding storages_where
own_replicas p K b =
    sym (ap (λ es. map (λ (e : ReplicaId × Marks). e.0.storage) (filter (λ e. p e.0.storage e.1) es)) (entries-keep by_replica K.replicas (λ q _. q.block == b))
    ∙ ap (map (λ (e : ReplicaId × Marks). e.0.storage)) (filter_filter (λ (e : ReplicaId × Marks). p e.0.storage e.1) (λ e. e.0.block == b) (entries K.replicas)))

-- a block's storages depend only on its own replicas
pub storages_of_same : (p : ℕ → Marks → Bool) (H G : Holdings) (b : ℕ) → ((s : ℕ) → get G.replicas (replica_at b s) ≡ get H.replicas (replica_at b s)) → storages_where p G b ≡ storages_where p H b
storages_of_same p H G b same =
    own_replicas p G b ∙ ap (λ m. map (λ (e : ReplicaId × Marks). e.0.storage) (filter (λ e. p e.0.storage e.1) (entries m))) (part_same (λ (q : ReplicaId). q.block == b) G.replicas H.replicas alike) ∙ sym (own_replicas p H b)
  where
    alike : (q : ReplicaId) → (q.block == b) ≡ true → get G.replicas q ≡ get H.replicas q
    alike q t = let is = eqb-true q.block b t in ap (λ c. get G.replicas (replica_at c q.storage)) is ∙ same q.storage ∙ ap (λ c. get H.replicas (replica_at c q.storage)) (sym is)

-- fewer replicas pass a stronger test
pub fewer_where : (p q : ℕ → Marks → Bool) (H : Holdings) (b : ℕ) → ((s : ℕ) (m : Marks) → p s m ≡ true → q s m ≡ true) → length (storages_where p H b) ≤ length (storages_where q H b)
unfolding storages_where
fewer_where p q H b more =
    let test : (ℕ → Marks → Bool) → ReplicaId × Marks → Bool = λ t e. (e.0.block == b) && t e.0.storage e.1 in
    let some = length-map (filter (test p) (entries H.replicas)) (λ e. e.0.storage) in
    let all = length-map (filter (test q) (entries H.replicas)) (λ e. e.0.storage) in
    let fewer = fewer_passing (test p) (test q) (λ e. passes (e.0.block == b) (p e.0.storage e.1) (q e.0.storage e.1) (more e.0.storage e.1)) (entries H.replicas) in
    omega (arith, some, all, fewer)
  where
    passes : (a c d : Bool) → (c ≡ true → d ≡ true) → (a && c) ≡ true → (a && d) ≡ true
    passes true c d h e = h e
    passes false c d h e = cc
