-- What a snapshot holds of a state: each node with its storages, and each block number with all
-- that the manager holds of it.
use Rattle.std.specs.Prelude.{ℕ, Bool, ◌==◌, List, ◌++◌, map, filter, Option}
use Rattle.bm_base.specs.declared.replica.ReplicaId.{ReplicaId}
use Rattle.bm_base.specs.declared.replica.Marks.{Marks}
use Rattle.bm_base.specs.declared.replica.BlockInfo.{BlockInfo}
use Rattle.bm_base.specs.declared.storage.StorageInfo.{StorageInfo}
use Rattle.bm_base.specs.declared.event.Remaining.{Remaining}
use Rattle.bm_base.specs.Words.{Map, entries, get, keys, distinct, Cluster, Holdings, by_replica, drains}
use Rattle.bm_saved.specs.declared.SavedReplica.{SavedReplica}
use Rattle.bm_saved.specs.declared.SavedTransfer.{SavedTransfer}

-- all that is held of one block number
pub record SavedBlock : Type 0 where
  pub id : ℕ
  -- its stamp and how many replicas are wanted, if the block is known
  pub info : Option BlockInfo
  -- its replicas with their marks, by storage
  pub replicas : List SavedReplica
  -- its pending transfers, by target
  pub pending : List SavedTransfer

-- an alive node
pub record SavedNode : Type 0 where
  pub node : ℕ
  pub rack : ℕ
  pub drains : Bool
  -- its storages with their remaining bytes, by storage
  pub storages : List Remaining

-- the entries for block b in a map of replicas
unfoldable pub entries_of_block : {X : Type 0} → Map by_replica X → ℕ → List (ReplicaId × X)
entries_of_block m b = filter (λ e. e.0.block == b) (entries m)

abbrev pub saved_replica : ReplicaId × Marks → SavedReplica
saved_replica e = record { storage = e.0.storage; marks = e.1 }

abbrev pub saved_transfer : ReplicaId × ℕ → SavedTransfer
saved_transfer e = record { target = e.0.storage; round = e.1 }

unfoldable pub saved_block : Holdings → ℕ → SavedBlock
saved_block H b = record {
  id = b;
  info = get H.blocks b;
  replicas = map saved_replica (entries_of_block H.replicas b);
  pending = map saved_transfer (entries_of_block H.pending b);
}

-- The block numbers of which something is held, ascending: those of known blocks, of replicas and
-- of pending transfers.
unfoldable pub held_numbers : Holdings → List ℕ
held_numbers H =
    distinct
    (keys H.blocks
    ++ map (λ q. q.block) (keys H.replicas)
    ++ map (λ q. q.block) (keys H.pending))

unfoldable pub saved_blocks : Holdings → List SavedBlock
saved_blocks H = map (saved_block H) (held_numbers H)

abbrev pub saved_storage : ℕ × StorageInfo → Remaining
saved_storage e = record { storage = e.0; remaining = e.1.remaining }

-- a node of the cluster, by its number and its rack
unfoldable pub saved_node : Cluster → ℕ → ℕ → SavedNode
saved_node C n rack = record {
  node = n;
  rack = rack;
  drains = drains C n;
  storages = map saved_storage (filter (λ e. e.1.node == n) (entries C.storages));
}

-- all nodes, ascending
unfoldable pub saved_nodes : Cluster → List SavedNode
saved_nodes C = map (λ e. saved_node C e.0 e.1) (entries C.nodes)
