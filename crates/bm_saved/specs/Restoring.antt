-- How a state is restored: one node after another, then one block number after another.
use Rattle.std.specs.Prelude.{ℕ, List, [], ◌∷◌, map, if◌then◌else◌}
use Rattle.std.specs.Option.{option_map_or}
use Rattle.bm_base.specs.declared.replica.ReplicaId.{ReplicaId}
use Rattle.bm_base.specs.declared.replica.Marks.{Marks}
use Rattle.bm_base.specs.declared.event.Remaining.{Remaining}
use Rattle.bm_base.specs.declared.storage.StorageInfo.{StorageInfo}
use Rattle.bm_base.specs.Words.{insert, insert_all, Cluster, Holdings, State, empty_cluster, empty_holdings, replica_at, register, heartbeat, drain}
use Rattle.bm_saved.specs.declared.SavedReplica.{SavedReplica}
use Rattle.bm_saved.specs.declared.SavedTransfer.{SavedTransfer}
use Rattle.bm_saved.specs.Saved.{SavedBlock, SavedNode}

-- the storage of a node, with its remaining bytes
abbrev pub storage_entry : ℕ → Remaining → ℕ × StorageInfo
storage_entry n r = (r.storage, record { node = n; remaining = r.remaining })

-- the cluster with one more node
unfoldable pub restore_node : Cluster → SavedNode → Cluster
restore_node C s = record C {
  nodes = insert C.nodes s.node s.rack;
  draining = if s.drains then insert C.draining s.node tt else C.draining;
  storages = insert_all C.storages (map (storage_entry s.node) s.storages);
}

abbrev pub restore_nodes : Cluster → List SavedNode → Cluster
restore_nodes C [] = C
restore_nodes C (s ∷ ss) = restore_nodes (restore_node C s) ss

-- the storages of a saved node
abbrev pub storages_of_node : SavedNode → List ℕ
storages_of_node s = map (λ r. r.storage) s.storages

-- the same by events: the node registers, reports its remaining bytes, and drains
abbrev pub restore_node_by_events : Cluster → SavedNode → Cluster
restore_node_by_events C s =
    let registered = register C s.node s.rack (storages_of_node s) in
    let reported = heartbeat registered s.storages in
    if s.drains then drain reported s.node else reported

-- a replica and a pending transfer of block b
abbrev pub replica_entry : ℕ → SavedReplica → ReplicaId × Marks
replica_entry b r = (replica_at b r.storage, r.marks)

abbrev pub transfer_entry : ℕ → SavedTransfer → ReplicaId × ℕ
transfer_entry b t = (replica_at b t.target, t.round)

-- the holdings with one more block number
unfoldable pub restore_block : Holdings → SavedBlock → Holdings
restore_block H s = record {
  blocks = option_map_or (λ i. insert H.blocks s.id i) s.info H.blocks;
  replicas = insert_all H.replicas (map (replica_entry s.id) s.replicas);
  pending = insert_all H.pending (map (transfer_entry s.id) s.pending);
}

abbrev pub restore_blocks : Holdings → List SavedBlock → Holdings
restore_blocks H [] = H
restore_blocks H (s ∷ ss) = restore_blocks (restore_block H s) ss

-- M with these nodes and blocks in place of its own: its limits and counts stay
abbrev pub restored_state : State → List SavedNode → List SavedBlock → State
restored_state M ns bs = record M {
  cluster = restore_nodes (empty_cluster M.cluster.limits) ns;
  holdings = restore_blocks empty_holdings bs;
}
