-- The lists of a part have only its own blocks.
use Rattle.std.proofs.Common.{◌≡◌, ℕ, ◌≤◌, Bool, true, List, map, filter, flat_map, refl, sym, ap, subst, ◌∙◌, T}
use Rattle.std.specs.Prelude.{◌==◌, take}
use Rattle.std.specs.FinMap.{is_sorted}
use Rattle.bm_base.specs.declared.replica.ReplicaId.{ReplicaId}
use Rattle.bm_base.specs.declared.replica.Marks.{Marks}
use Rattle.bm_base.specs.declared.replica.Replica.{Replica}
use Rattle.bm_base.specs.declared.limits.TheConstants.{MAX_PLACES}
use Rattle.bm_base.specs.declared.replica.Level.TheVariants.{NoUsableReplica}
use Rattle.bm_base.specs.Words.{entries, keys, Cluster, Holdings, by_replica, replica_cmp, level, is_at, missing_blocks, blocks_on, places}
use Rattle.bm_base.specs.Shards.{shard_of, cut}
use Rattle.bm_base.specs.Promises.Versions.{table}
use Rattle.bm_base.specs.Ordered.{ordered_by}
use Rattle.bm_base.proofs.ForEach.{Each, each_then, each_filtered, each_mapped, each_passing}
use Rattle.bm_parts.specs.Whole.{parts}
use Rattle.bm_parts.specs.QueryLaws.{replica_key}
use Rattle.bm_parts.proofs.Parts.{own}
use Rattle.bm_parts.proofs.CutParts.{keys_cut, replicas_cut}
use Rattle.bm_parts.proofs.Filters.{filter_swap, map_filter}
use Rattle.bm_parts.proofs.JoinedReplicas.{listed_ascends, joins}

abbrev IsOf : ℕ → ℕ → ℕ → Type 0
IsOf index shards b = (shard_of b shards == index) ≡ true

own_replicas : {Y : Type 0} (f : ReplicaId × Marks → Y) (p : ReplicaId × Marks → Bool) (block : Y → ℕ) → ((e : ReplicaId × Marks) → block (f e) ≡ e.0.block)
    → (H : Holdings) (index shards : ℕ) → Each (λ y. IsOf index shards (block y)) (map f (filter p (entries (cut H index shards).replicas)))
own_replicas f p block is H index shards =
    let es = entries (cut H index shards).replicas in
    each_mapped (λ y. IsOf index shards (block y)) f (filter p es)
    (each_filtered (λ e. IsOf index shards (block (f e))) p es
    (subst (Each (λ e. IsOf index shards (block (f e)))) (sym (replicas_cut index shards H))
    (each_then (λ e. IsOf index shards e.0.block) (λ e. IsOf index shards (block (f e))) _ (each_passing (λ e. own index shards e.0.block) (entries H.replicas)) (λ e t. subst (IsOf index shards) (sym (is e)) t))))

own_keys : (p : ℕ → Bool) (H : Holdings) (index shards : ℕ) → Each (IsOf index shards) (filter p (keys (cut H index shards).blocks))
own_keys p H index shards = each_filtered (IsOf index shards) p _ (subst (Each (IsOf index shards)) (sym (keys_cut index shards H)) (each_passing (own index shards) (keys H.blocks)))

pub own_missing : (C : Cluster) (H : Holdings) (index shards : ℕ) → Each (IsOf index shards) (missing_blocks C (cut H index shards))
unfolding missing_blocks
own_missing C H index shards = own_keys (λ b. is_at NoUsableReplica (level C (cut H index shards) b)) H index shards

pub own_blocks_on : (s : ℕ) (H : Holdings) (index shards : ℕ) → Each (IsOf index shards) (blocks_on (cut H index shards) s)
unfolding blocks_on
own_blocks_on s H index shards = own_replicas (λ e. e.0.block) (λ e. e.0.storage == s) (λ b. b) (λ _. refl) H index shards

pub own_rows : (H : Holdings) (index shards : ℕ) → Each (λ (row : ℕ × List ℕ). IsOf index shards row.0) (table (cut H index shards))
unfolding table
own_rows H index shards =
    let P = cut H index shards in
    each_mapped (λ (row : ℕ × List ℕ). IsOf index shards row.0) (λ b. (b, take MAX_PLACES (places P b))) (keys P.blocks)
    (subst (Each (IsOf index shards)) (sym (keys_cut index shards H)) (each_passing (own index shards) (keys H.blocks)))

-- Replicas whose marks pass.

module _ (p : Marks → Bool) where
  abbrev pub passing : Holdings → List Replica
  passing H = map (λ e. record { block = e.0.block; storage = e.0.storage; tag = e.1.tag }) (filter (λ e. p e.1) (entries H.replicas))

  pub own_passing : (H : Holdings) (index shards : ℕ) → Each (λ (r : Replica). IsOf index shards r.block) (passing (cut H index shards))
  own_passing H index shards = own_replicas (λ e. record { block = e.0.block; storage = e.0.storage; tag = e.1.tag }) (λ e. p e.1) (λ r. r.block) (λ _. refl) H index shards

  passing_ascends : (H : Holdings) → T (is_sorted replica_cmp (map (λ r. (replica_key r, r)) (passing H)))
  unfolding entries
  passing_ascends H = listed_ascends replica_cmp (λ (e : ReplicaId × Marks). record { block = e.0.block; storage = e.0.storage; tag = e.1.tag }) (λ e. p e.1) replica_key (λ _. refl) H.replicas.list H.replicas.sorted

  passing_cut : (H : Holdings) (shards index : ℕ) → passing (cut H index shards) ≡ filter (λ (r : Replica). shard_of r.block shards == index) (passing H)
  passing_cut H shards index =
      let f : ReplicaId × Marks → Replica = λ e. record { block = e.0.block; storage = e.0.storage; tag = e.1.tag } in
      let q : ReplicaId × Marks → Bool = λ e. p e.1 in
      ap (λ (es : List (ReplicaId × Marks)). map f (filter q es)) (replicas_cut index shards H)
      ∙ ap (map f) (filter_swap (λ (e : ReplicaId × Marks). own index shards e.0.block) q q (λ _ _. refl) (entries H.replicas))
      ∙ sym (map_filter f (λ (r : Replica). shard_of r.block shards == index) (filter q (entries H.replicas)))

  pub passing_join : (H : Holdings) (shards : ℕ) → 1 ≤ shards → ordered_by by_replica replica_key (flat_map passing (parts H shards)) ≡ passing H
  passing_join H shards some = joins by_replica replica_key passing (λ (r : Replica). r.block) H shards some (passing_ascends H) (passing_cut H shards)
