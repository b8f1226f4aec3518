-- Which levels events and rounds keep: which blocks a shard need not reclassify.
use Rattle.std.specs.Prelude.{◌≡◌, ◌≢◌, ℕ, false, ◌==◌, List, Some, None, IsSome}
use Rattle.std.specs.List.{list_any}
use Rattle.bm_base.specs.declared.commands.Transfer.{Transfer}
use Rattle.bm_base.specs.declared.commands.Delete.{Delete}
use Rattle.bm_base.specs.declared.event.Event.{Event}
use Rattle.bm_base.specs.declared.event.Remaining.{Remaining}
use Rattle.bm_base.specs.declared.replica.ReplicaId.{ReplicaId}
use Rattle.bm_base.specs.Words.{get, contains_key, Cluster, Holdings, replica_at, has, rack_of, has_storage, is_draining, is_multi_rack, usable, level, register, heartbeat, without_node, without_storage, drain, undrain, without_storages, begin_drain, change_cluster, change_holdings, knows_storage, first_of, cluster_checks, end_round}
use Rattle.bm_base.specs.RoundParts.{round_on_part}
use Rattle.bm_base.specs.Promises.Lawful.{IsLawfulCluster}
use Rattle.bm_parts.specs.Parts.{block_of, change_part}

-- each replica is on a storage of an alive node
abbrev pub IsRacked : Cluster → Holdings → Type 0
IsRacked C H = (q : ReplicaId) → IsSome (get H.replicas q) → IsSome (rack_of C q.storage)

-- One block.

-- a block's level depends only on its information and on its own replicas
abbrev pub level_is_of_its_block : Type 0
level_is_of_its_block =
    (C : Cluster) (H G : Holdings) (b : ℕ) → get G.blocks b ≡ get H.blocks b → ((s : ℕ) → get G.replicas (replica_at b s) ≡ get H.replicas (replica_at b s))
    → level C G b ≡ level C H b

-- an event on one block keeps the levels of all others
abbrev pub event_leaves_other_levels : Type 0
event_leaves_other_levels = (C : Cluster) (H : Holdings) (e : Event) (b c : ℕ) → block_of e ≡ Some b → c ≢ b → level C (change_holdings C H e) c ≡ level C H c

-- the end of a round keeps the levels of its start
abbrev pub round_end_leaves_levels : Type 0
round_end_leaves_levels = (C : Cluster) (r : ℕ) (G : Holdings) (ts : List Transfer) (ds : List Delete) (b : ℕ) → level C (end_round r G ts ds) b ≡ level C G b

-- Heartbeats.

-- a heartbeat keeps the racks, and which nodes drain
abbrev pub heartbeat_leaves_racks : Type 0
heartbeat_leaves_racks =
    (C : Cluster) (rs : List Remaining)
    → ((s : ℕ) → rack_of (heartbeat C rs) s ≡ rack_of C s) × ((s : ℕ) → is_draining (heartbeat C rs) s ≡ is_draining C s) × (is_multi_rack (heartbeat C rs) ≡ is_multi_rack C)

-- a heartbeat keeps every level
abbrev pub heartbeat_leaves_levels : Type 0
heartbeat_leaves_levels = (C : Cluster) (rs : List Remaining) (H : Holdings) (b : ℕ) → level (heartbeat C rs) H b ≡ level C H b

-- Nodes and storages that come and go.

-- a new node keeps every level, if it does not change whether the cluster has several racks
abbrev pub register_leaves_levels : Type 0
register_leaves_levels =
    (C : Cluster) (H : Holdings) (n rack : ℕ) (ss : List ℕ) (b : ℕ) → contains_key C.nodes n ≡ false → list_any (knows_storage C) ss ≡ false → IsRacked C H
    → is_multi_rack (register C n rack ss) ≡ is_multi_rack C → level (register C n rack ss) H b ≡ level C H b

-- a death keeps the levels of blocks without a usable replica on the node, if it does not change
-- whether the cluster has several racks
abbrev pub death_leaves_levels : Type 0
death_leaves_levels =
    (C : Cluster) (H : Holdings) (n b : ℕ) → list_any (has_storage C n) (usable H b) ≡ false → is_multi_rack (without_node C n) ≡ is_multi_rack C
    → level (without_node C n) (without_storages H (has_storage C n)) b ≡ level C H b

-- a failed storage keeps the levels of blocks without a usable replica on it
abbrev pub failure_leaves_levels : Type 0
failure_leaves_levels = (C : Cluster) (H : Holdings) (t b : ℕ) → has (usable H b) t ≡ false → level (without_storage C t) (without_storages H (λ s. s == t)) b ≡ level C H b

-- Nodes that drain.

-- a node that begins to drain keeps the levels of blocks without a usable replica on it
abbrev pub drain_leaves_levels : Type 0
drain_leaves_levels = (C : Cluster) (H : Holdings) (n b : ℕ) → list_any (has_storage C n) (usable H b) ≡ false → level (drain C n) (begin_drain C H n) b ≡ level C H b

-- a node that ceases to drain keeps the levels of blocks without a usable replica on it
abbrev pub undrain_leaves_levels : Type 0
undrain_leaves_levels = (C : Cluster) (H : Holdings) (n b : ℕ) → list_any (has_storage C n) (usable H b) ≡ false → level (undrain C n) H b ≡ level C H b

-- Replicas stay on storages of alive nodes.

-- an event that the cluster does not refuse keeps the replicas of a part on storages of alive
-- nodes
abbrev pub event_keeps_racked : Type 0
event_keeps_racked =
    (C : Cluster) (P : Holdings) (e : Event) (index shards : ℕ) → IsLawfulCluster C → first_of (cluster_checks C e) ≡ None → IsRacked C P
    → IsRacked (change_cluster C e) (change_part C P index shards e)

-- a round keeps the replicas of a part on storages of alive nodes
abbrev pub round_keeps_racked : Type 0
round_keeps_racked =
    (C : Cluster) (pend r : ℕ) (P : Holdings) (index shards : ℕ) (ts : List Transfer) (ds : List Delete) → IsRacked C P → IsRacked C (round_on_part C pend r P index shards ts ds)
