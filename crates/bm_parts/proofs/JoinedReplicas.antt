-- The replicas that the shards list, merged in order, are those that the whole lists.
use Rattle.std.proofs.Common.{◌≡◌, ℕ, ◌≤◌, Bool, true, false, cond, List, [], ◌∷◌, map, filter, flat_map, Ordering, refl, sym, ap, subst, ◌∙◌, eqb-true, mod-lt, T}
use Rattle.std.specs.Prelude.{◌==◌}
use Rattle.std.specs.Ordering.{is_lt, nat_cmp}
use Rattle.std.specs.FinMap.{is_sorted}
use Rattle.std.specs.FinMap.Entries.{below_all}
use Rattle.bm_base.specs.Maps.Conjunction.{both, first, second}
use Rattle.bm_base.specs.declared.replica.ReplicaId.{ReplicaId}
use Rattle.bm_base.specs.declared.replica.Marks.{Marks}
use Rattle.bm_base.specs.declared.replica.Replica.{Replica}
use Rattle.bm_base.specs.Words.{Order, by_number, entries, Holdings, by_replica, replica_cmp, all_replicas, replicas_where, blocks_on, range_from}
use Rattle.bm_base.specs.Shards.{shard_of, cut}
use Rattle.bm_base.specs.Ordered.{ordered_by}
use Rattle.bm_parts.specs.Whole.{parts}
use Rattle.bm_parts.specs.QueryLaws as law
use Rattle.bm_parts.proofs.Parts.{own}
use Rattle.bm_parts.proofs.JoinedShares.{shares_in_order}
use Rattle.bm_parts.proofs.Filters.{filter_swap, map_filter, filter_all}
use Rattle.std.proofs.lemmas.List.Folds.{flat_map-map}
use Rattle.bm_parts.proofs.CutParts.{replicas_cut}
use Rattle.bm_parts.proofs.WholeChoices.{flat_map_same}
use Rattle.bm_base.proofs.Orderings.{lesser_block}

-- Results for sorted entries, each with its entry's key, are sorted.
module _ {K X Y : Type 0} (R : K → K → Ordering) (f : K × X → Y) (p : K × X → Bool) (key : Y → K) (is : (e : K × X) → key (f e) ≡ e.0) where
  below_listed : (k : K) (es : List (K × X)) → T (below_all R k es) → T (below_all R k (map (λ y. (key y, y)) (map f (filter p es))))
  below_listed k [] h = tt
  below_listed k (e ∷ es) h = by (p e) (below_listed k es (second _ _ h))
    where
      by : (b : Bool) → T (below_all R k (map (λ y. (key y, y)) (map f (filter p es)))) → T (below_all R k (map (λ y. (key y, y)) (map f (cond b (e ∷ filter p es) (filter p es)))))
      by true rest = both _ _ (subst (λ q. T (is_lt (R k q))) (sym (is e)) (first _ _ h)) rest
      by false rest = rest

  pub listed_ascends : (es : List (K × X)) → T (is_sorted R es) → T (is_sorted R (map (λ y. (key y, y)) (map f (filter p es))))
  listed_ascends [] h = tt
  listed_ascends (e ∷ es) h = by (p e) (listed_ascends es (second _ _ h))
    where
      by : (b : Bool) → T (is_sorted R (map (λ y. (key y, y)) (map f (filter p es)))) → T (is_sorted R (map (λ y. (key y, y)) (map f (cond b (e ∷ filter p es) (filter p es)))))
      by true rest = both _ _ (subst (λ q. T (below_all R q (map (λ y. (key y, y)) (map f (filter p es))))) (sym (is e)) (below_listed e.0 es (first _ _ h))) rest
      by false rest = rest

-- a sorted list of the whole, of which each part lists its share
pub joins : {K Y : Type 0} (o : Order K) (key : Y → K) (list : Holdings → List Y) (block : Y → ℕ) (H : Holdings) (shards : ℕ) → 1 ≤ shards
    → T (is_sorted o.cmp (map (λ y. (key y, y)) (list H))) → ((i : ℕ) → list (cut H i shards) ≡ filter (λ y. shard_of (block y) shards == i) (list H))
    → ordered_by o key (flat_map list (parts H shards)) ≡ list H
joins o key list block H shards some ascends shares =
    ap (ordered_by o key) (flat_map-map list (λ i. cut H i shards) (range_from 0 shards) ∙ flat_map_same _ _ shares (range_from 0 shards))
    ∙ shares_in_order o key (list H) ascends (λ y. shard_of (block y) shards) shards (λ y. mod-lt (block y) some)

-- Replicas.

module _ {Y : Type 0} (f : ReplicaId × Marks → Y) (p : ReplicaId × Marks → Bool) where
  abbrev replicas_as : Holdings → List Y
  replicas_as H = map f (filter p (entries H.replicas))

  replicas_as_cut : (block : Y → ℕ) → ((e : ReplicaId × Marks) → block (f e) ≡ e.0.block) → (H : Holdings) (shards i : ℕ) → replicas_as (cut H i shards) ≡ filter (λ y. shard_of (block y) shards == i) (replicas_as H)
  replicas_as_cut block is H shards i =
      ap (λ (es : List (ReplicaId × Marks)). map f (filter p es)) (replicas_cut i shards H)
      ∙ ap (map f) (filter_swap (λ (e : ReplicaId × Marks). own i shards e.0.block) p p (λ _ _. refl) (entries H.replicas))
      ∙ ap (λ (t : ReplicaId × Marks → Bool). map f (filter t (filter p (entries H.replicas)))) (λ j e. own i shards (sym (is e) j))
      ∙ sym (map_filter f (λ y. shard_of (block y) shards == i) (filter p (entries H.replicas)))

  replicas_as_ascend : (key : Y → ReplicaId) → ((e : ReplicaId × Marks) → key (f e) ≡ e.0) → (H : Holdings) → T (is_sorted replica_cmp (map (λ y. (key y, y)) (replicas_as H)))
  unfolding entries
  replicas_as_ascend key is H = listed_ascends replica_cmp f p key is H.replicas.list H.replicas.sorted

abbrev as_replica : ReplicaId × Marks → Replica
as_replica e = record { block = e.0.block; storage = e.0.storage; tag = e.1.tag }

all_are : (H : Holdings) → replicas_as as_replica (λ _. true) H ≡ all_replicas H
unfolding all_replicas
all_are H = ap (map as_replica) (filter_all (entries H.replicas))

pub replicas_join : law.replicas_join
replicas_join H shards some =
    ap (ordered_by by_replica law.replica_key) (flat_map_same all_replicas (replicas_as as_replica (λ _. true)) (λ P. sym (all_are P)) (parts H shards))
    ∙ joins by_replica law.replica_key (replicas_as as_replica (λ _. true)) (λ r. r.block) H shards some (replicas_as_ascend as_replica (λ _. true) law.replica_key (λ _. refl) H)
    (replicas_as_cut as_replica (λ _. true) (λ r. r.block) (λ _. refl) H shards)
    ∙ all_are H

pub marked_replicas_join : law.marked_replicas_join
unfolding replicas_where
marked_replicas_join p H shards some =
    joins by_replica (λ (q : ReplicaId). q) (replicas_as (λ e. e.0) (λ e. p e.1)) (λ q. q.block) H shards some (replicas_as_ascend (λ e. e.0) (λ e. p e.1) (λ q. q) (λ _. refl) H)
    (replicas_as_cut (λ e. e.0) (λ e. p e.1) (λ q. q.block) (λ _. refl) H shards)

-- Blocks on a storage.

module _ (s : ℕ) where
  below_on : (p : ReplicaId) (es : List (ReplicaId × Marks)) → p.storage ≡ s → T (below_all replica_cmp p es) → T (below_all nat_cmp p.block (map (λ b. (b, b)) (map (λ e. e.0.block) (filter (λ e. e.0.storage == s) es))))
  below_on p [] at h = tt
  below_on p (e ∷ es) at h = by (e.0.storage == s) refl (below_on p es at (second _ _ h))
    where
      by : (b : Bool) → (e.0.storage == s) ≡ b → T (below_all nat_cmp p.block (map (λ b. (b, b)) (map (λ e. e.0.block) (filter (λ e. e.0.storage == s) es))))
          → T (below_all nat_cmp p.block (map (λ b. (b, b)) (map (λ e. e.0.block) (cond b (e ∷ filter (λ e. e.0.storage == s) es) (filter (λ e. e.0.storage == s) es)))))
      by true t rest = both _ _ (lesser_block p e.0 (at ∙ sym (eqb-true e.0.storage s t)) (first _ _ h)) rest
      by false t rest = rest

  on_ascends : (es : List (ReplicaId × Marks)) → T (is_sorted replica_cmp es) → T (is_sorted nat_cmp (map (λ b. (b, b)) (map (λ e. e.0.block) (filter (λ e. e.0.storage == s) es))))
  on_ascends [] h = tt
  on_ascends (e ∷ es) h = by (e.0.storage == s) refl (on_ascends es (second _ _ h))
    where
      by : (b : Bool) → (e.0.storage == s) ≡ b → T (is_sorted nat_cmp (map (λ b. (b, b)) (map (λ e. e.0.block) (filter (λ e. e.0.storage == s) es))))
          → T (is_sorted nat_cmp (map (λ b. (b, b)) (map (λ e. e.0.block) (cond b (e ∷ filter (λ e. e.0.storage == s) es) (filter (λ e. e.0.storage == s) es)))))
      by true t rest = both _ _ (below_on e.0 es (eqb-true e.0.storage s t) (first _ _ h)) rest
      by false t rest = rest

pub blocks_on_join : law.blocks_on_join
unfolding blocks_on entries
blocks_on_join s H shards some =
    joins by_number (λ (b : ℕ). b) (replicas_as (λ e. e.0.block) (λ e. e.0.storage == s)) (λ b. b) H shards some (on_ascends s H.replicas.list H.replicas.sorted)
    (replicas_as_cut (λ e. e.0.block) (λ e. e.0.storage == s) (λ b. b) (λ _. refl) H shards)
