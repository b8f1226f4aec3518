-- How the answers of shards are joined to those of the whole.
use Rattle.std.specs.Prelude.{◌≡◌, ℕ, ◌≤◌, Bool, not, ◌&&◌, List, flat_map, Some}
use Rattle.std.specs.List.{list_any}
use Rattle.bm_base.specs.declared.replica.ReplicaId.{ReplicaId}
use Rattle.bm_base.specs.declared.replica.Marks.{Marks}
use Rattle.bm_base.specs.declared.replica.Replica.{Replica}
use Rattle.bm_base.specs.declared.event.Event.{Event}
use Rattle.bm_base.specs.Words.{by_number, keys, Cluster, Holdings, by_replica, replica_at, drains, level, all_replicas, replicas_where, missing_blocks, blocks_on, places, is_held_back_by, is_retired, block_checks, block_refusal}
use Rattle.bm_base.specs.Promises.Versions.{table}
use Rattle.bm_base.specs.Shards.{shard_of, cut}
use Rattle.bm_base.specs.Ordered.{ordered_by}
use Rattle.bm_parts.specs.Parts.{block_of}
use Rattle.bm_parts.specs.Whole.{parts}

-- Queries to all shards.

abbrev pub replica_key : Replica → ReplicaId
replica_key r = replica_at r.block r.storage

abbrev pub replicas_join : Type 0
replicas_join = (H : Holdings) (shards : ℕ) → 1 ≤ shards → ordered_by by_replica replica_key (flat_map all_replicas (parts H shards)) ≡ all_replicas H

-- as `replicas_join`, for the replicas whose marks pass a test, like corrupt ones and those in
-- excess
abbrev pub marked_replicas_join : Type 0
marked_replicas_join =
    (p : Marks → Bool) (H : Holdings) (shards : ℕ) → 1 ≤ shards → ordered_by by_replica (λ (q : ReplicaId). q) (flat_map (replicas_where p) (parts H shards)) ≡ replicas_where p H

abbrev pub missing_join : Type 0
missing_join = (C : Cluster) (H : Holdings) (shards : ℕ) → 1 ≤ shards → ordered_by by_number (λ (b : ℕ). b) (flat_map (missing_blocks C) (parts H shards)) ≡ missing_blocks C H

abbrev pub blocks_on_join : Type 0
blocks_on_join = (s : ℕ) (H : Holdings) (shards : ℕ) → 1 ≤ shards → ordered_by by_number (λ (b : ℕ). b) (flat_map (λ P. blocks_on P s) (parts H shards)) ≡ blocks_on H s

abbrev pub tables_join : Type 0
tables_join = (H : Holdings) (shards : ℕ) → 1 ≤ shards → ordered_by by_number (λ (row : ℕ × List ℕ). row.0) (flat_map table (parts H shards)) ≡ table H

-- whether some block of these holdings holds node n back
unfoldable pub holds_back : Cluster → ℕ → Holdings → Bool
holds_back C n H = list_any (is_held_back_by C H n) (keys H.blocks)

-- the whole holds a node back exactly if some part does
abbrev pub held_back_by_some_part : Type 0
held_back_by_some_part = (C : Cluster) (n : ℕ) (H : Holdings) (shards : ℕ) → 1 ≤ shards → list_any (holds_back C n) (parts H shards) ≡ holds_back C n H

-- a node is retired exactly if it drains and no part holds it back
abbrev pub retired_by_all_parts : Type 0
retired_by_all_parts = (C : Cluster) (n : ℕ) (H : Holdings) (shards : ℕ) → 1 ≤ shards → is_retired C H n ≡ (drains C n && not (list_any (holds_back C n) (parts H shards)))

-- A block's shard answers a query about the block.

abbrev pub own_shard_answers : Type 0
own_shard_answers =
    (C : Cluster) (H : Holdings) (b shards : ℕ) → let P = cut H (shard_of b shards) shards in
    (block_refusal P b ≡ block_refusal H b) × (places P b ≡ places H b) × (level C P b ≡ level C H b)

-- the block's shard makes the checks of an event on the block
abbrev pub own_shard_checks : Type 0
own_shard_checks = (H : Holdings) (e : Event) (b shards : ℕ) → block_of e ≡ Some b → block_checks (cut H (shard_of b shards) shards) e ≡ block_checks H e
