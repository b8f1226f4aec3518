-- The queries of a state, each list ascending. Source: the queries of Hadoop 2's BlockManager
-- (corrupt, missing and excess replicas) and its block locations.
use Rattle.std.specs.Prelude.{ℕ, Bool, not, ◌&&◌, ◌==◌, List, map, filter}
use Rattle.std.specs.List.{list_any}
use Rattle.bm_base.specs.declared.replica.ReplicaId.{ReplicaId}
use Rattle.bm_base.specs.declared.replica.Marks.{Marks}
use Rattle.bm_base.specs.declared.replica.Replica.{Replica}
use Rattle.bm_base.specs.declared.replica.Level.TheVariants.{NoUsableReplica}
use Rattle.bm_base.specs.Maps.Map.{entries, keys}
use Rattle.bm_base.specs.Machine.State.{Cluster, Holdings}
use Rattle.bm_base.specs.Machine.Replicas.{is_good, is_corrupt, storages_where, drained, drains, has_storage, has_enough_live}
use Rattle.bm_base.specs.Machine.Levels.{level, is_at}

-- all replicas, with their tags
unfoldable pub all_replicas : Holdings → List Replica
all_replicas H =
    map (λ e. record { block = e.0.block; storage = e.0.storage; tag = e.1.tag })
    (entries H.replicas)

unfoldable pub replicas_where : (Marks → Bool) → Holdings → List ReplicaId
replicas_where p H = map (λ e. e.0) (filter (λ e. p e.1) (entries H.replicas))

-- the replicas that are stale or bad
abbrev pub corrupt_replicas : Holdings → List ReplicaId
corrupt_replicas H = replicas_where (λ m. is_corrupt m.tag) H

abbrev pub excess_replicas : Holdings → List ReplicaId
excess_replicas H = replicas_where (λ m. m.excess) H

-- the blocks of which no replica is usable
unfoldable pub missing_blocks : Cluster → Holdings → List ℕ
missing_blocks C H = filter (λ b. is_at NoUsableReplica (level C H b)) (keys H.blocks)

-- the blocks of all replicas on a storage, whatever their tags
unfoldable pub blocks_on : Holdings → ℕ → List ℕ
blocks_on H s = map (λ e. e.0.block) (filter (λ e. e.0.storage == s) (entries H.replicas))

-- the storages of the block's good replicas, in excess or not
abbrev pub places : Holdings → ℕ → List ℕ
places H b = storages_where (λ _ m. is_good m.tag) H b

-- whether a block holds node n back, so that it can't be decommissioned yet: a replica of it is
-- drained there, and fewer are live than are wanted
unfoldable pub is_held_back_by : Cluster → Holdings → ℕ → ℕ → Bool
is_held_back_by C H n b = list_any (has_storage C n) (drained C H b) && not (has_enough_live C H b)

-- whether node n is retired: it drains, and no block holds it back
unfoldable pub is_retired : Cluster → Holdings → ℕ → Bool
is_retired C H n = drains C n && not (list_any (is_held_back_by C H n) (keys H.blocks))
