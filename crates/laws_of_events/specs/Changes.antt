-- What each event changes, and what it keeps.
use Rattle.std.specs.Prelude.{◌≡◌, ◌≢◌, ℕ, ◌+◌, true, false, IsTrue, IsSome, List, ◌∷◌, ◌++◌, map, Some, None}
use Rattle.bm_base.specs.declared.replica.ReplicaId.{ReplicaId}
use Rattle.bm_base.specs.declared.replica.Tag.TheVariants.{Good, Stale, Bad, Stray}
use Rattle.bm_base.specs.declared.replica.Marks.{Marks}
use Rattle.bm_base.specs.declared.replica.Stamp.{Stamp}
use Rattle.bm_base.specs.declared.replica.BlockInfo.{BlockInfo}
use Rattle.bm_base.specs.declared.storage.StorageInfo.{StorageInfo}
use Rattle.bm_base.specs.declared.event.Entry.{Entry}
use Rattle.bm_base.specs.declared.event.Remaining.{Remaining}
use Rattle.bm_base.specs.declared.event.Event.{Event}
use Rattle.bm_base.specs.declared.event.Event.TheVariants.{Register, Dead, StorageFailed, Heartbeat, AddBlock, DeleteBlock, SetReplication, Restamp, Received, Deleted, Corrupt, FullReport}
use Rattle.bm_base.specs.Words.{get, contains_key, len, has, Cluster, Holdings, State, replica_at, done_by, after_event}
use Rattle.laws_of_events.specs.Reports.{held_after, numbers_of, IsBadIn}
use Rattle.bm_parts.specs.Parts.{IsSameOf, block_of}

abbrev pub cluster_after : State → Event → Cluster
cluster_after M e = (after_event M e).cluster

-- All events.

-- the answer of an event adds up: after it there are `added` more replicas, and `removed` fewer
abbrev pub counts_add_up : Type 0
counts_add_up = (M : State) (e : Event) → len (held_after M e).replicas + (done_by M e).removed ≡ len M.holdings.replicas + (done_by M e).added

-- a bad replica stays bad as long as it exists and its block is known
abbrev pub bad_replica_stays_bad : State → Type 0
bad_replica_stays_bad M =
    (e : Event) (p : ReplicaId) → IsBadIn M.holdings p → IsSome (get (held_after M e).replicas p) → IsTrue (contains_key (held_after M e).blocks p.block) → IsBadIn (held_after M e) p

-- An event on one block keeps everything of any other.
abbrev pub event_leaves_other_blocks : Type 0
event_leaves_other_blocks = (M : State) (e : Event) (b c : ℕ) → block_of e ≡ Some b → c ≢ b → IsSameOf c M.holdings (held_after M e)

-- Nodes and storages.

-- a node was added with these storages, which have no remaining bytes yet; other nodes, other
-- storages and all holdings stay
pub record NodeCame (M N : State) (n rack : ℕ) (ss : List ℕ) : Type 0 where
  pub node : get N.cluster.nodes n ≡ Some rack
  pub other_nodes : (m : ℕ) → m ≢ n → get N.cluster.nodes m ≡ get M.cluster.nodes m
  pub storages : (s : ℕ) → has ss s ≡ true → get N.cluster.storages s ≡ Some (record { node = n; remaining = 0 })
  pub other_storages : (s : ℕ) → has ss s ≡ false → get N.cluster.storages s ≡ get M.cluster.storages s
  pub holdings : N.holdings ≡ M.holdings

abbrev pub registered_node_is_there : Type 0
registered_node_is_there = (M : State) (n rack : ℕ) (ss : List ℕ) → NodeCame M (after_event M (Register n rack ss)) n rack ss

-- the storages of `left` are gone with their replicas and the transfers to them; blocks, and what
-- other storages have, stay
pub record StoragesLeft (M N : State) (left : ℕ → Type 0) : Type 0 where
  pub storages : (s : ℕ) → left s → get N.cluster.storages s ≡ None
  pub other_storages : (s : ℕ) → (left s → ⊥) → get N.cluster.storages s ≡ get M.cluster.storages s
  pub replicas : (p : ReplicaId) → left p.storage → get N.holdings.replicas p ≡ None
  pub other_replicas : (p : ReplicaId) → (left p.storage → ⊥) → get N.holdings.replicas p ≡ get M.holdings.replicas p
  pub pending : (p : ReplicaId) → left p.storage → get N.holdings.pending p ≡ None
  pub other_pending : (p : ReplicaId) → (left p.storage → ⊥) → get N.holdings.pending p ≡ get M.holdings.pending p
  pub blocks : N.holdings.blocks ≡ M.holdings.blocks

-- storage s is one of node n
abbrev pub IsOn : Cluster → ℕ → ℕ → Type 0
IsOn C n s = (i : StorageInfo) × (get C.storages s ≡ Some i) × (i.node ≡ n)

-- a dead node leaves with its storages, their replicas and the transfers to them
abbrev pub dead_node_leaves : Type 0
dead_node_leaves =
    (M : State) (n : ℕ)
    → (get (cluster_after M (Dead n)).nodes n ≡ None)
    × ((m : ℕ) → m ≢ n → get (cluster_after M (Dead n)).nodes m ≡ get M.cluster.nodes m)
    × StoragesLeft M (after_event M (Dead n)) (IsOn M.cluster n)

-- a failed storage leaves, and its node stays
abbrev pub failed_storage_leaves : Type 0
failed_storage_leaves =
    (M : State) (s : ℕ)
    → ((cluster_after M (StorageFailed s)).nodes ≡ M.cluster.nodes)
    × StoragesLeft M (after_event M (StorageFailed s)) (λ t. t ≡ s)

-- of several values for one storage the last one counts
abbrev pub last_heartbeat_counts : Type 0
last_heartbeat_counts =
    (M : State) (n : ℕ) (front : List Remaining) (r : Remaining) (behind : List Remaining) (i : StorageInfo) → get M.cluster.storages r.storage ≡ Some i → has (map (λ q. q.storage) behind) r.storage ≡ false
    → get (cluster_after M (Heartbeat n (front ++ (r ∷ behind)))).storages r.storage ≡ Some (record { node = i.node; remaining = r.remaining })

abbrev pub heartbeat_leaves_others : Type 0
heartbeat_leaves_others = (M : State) (n : ℕ) (rs : List Remaining) (s : ℕ) → has (map (λ q. q.storage) rs) s ≡ false → get (cluster_after M (Heartbeat n rs)).storages s ≡ get M.cluster.storages s

-- Blocks.

abbrev pub added_block_is_known : Type 0
added_block_is_known =
    (M : State) (b : ℕ) (stamp : Stamp) (repl : ℕ)
    → (get (held_after M (AddBlock b stamp repl)).blocks b ≡ Some (record { stamp = stamp; repl = repl }))
    × ((held_after M (AddBlock b stamp repl)).replicas ≡ M.holdings.replicas)
    × ((held_after M (AddBlock b stamp repl)).pending ≡ M.holdings.pending)

-- a block keeps its replicas, and R relates the marks of each before and after
abbrev pub AreMarked : ℕ → Holdings → Holdings → (Marks → Marks → Type 0) → Type 0
AreMarked b H G R =
    (s : ℕ)
    → (get H.replicas (replica_at b s) ≡ None → get G.replicas (replica_at b s) ≡ None)
    × ((m : Marks) → get H.replicas (replica_at b s) ≡ Some m → (k : Marks) × (get G.replicas (replica_at b s) ≡ Some k) × R m k)

-- a deleted block is not known, its replicas are stray, and no transfer of it is pending
pub record BlockDeleted (H G : Holdings) (b : ℕ) : Type 0 where
  pub unknown : get G.blocks b ≡ None
  pub stray : AreMarked b H G (λ m k. (k.tag ≡ Stray) × (k.excess ≡ false) × (k.ordered ≡ m.ordered))
  pub none_pending : (s : ℕ) → get G.pending (replica_at b s) ≡ None

abbrev pub deleted_block_is_stray : Type 0
deleted_block_is_stray = (M : State) (b : ℕ) → BlockDeleted M.holdings (held_after M (DeleteBlock b)) b

-- a block with a new stamp has no good replica, and no pending transfer
pub record BlockRestamped (H G : Holdings) (b : ℕ) (stamp : Stamp) : Type 0 where
  pub known : (i : BlockInfo) → get H.blocks b ≡ Some i → get G.blocks b ≡ Some (record { stamp = stamp; repl = i.repl })
  pub none_good : AreMarked b H G (λ m k. (m.tag ≡ Good → k.tag ≡ Stale) × (m.tag ≢ Good → k.tag ≡ m.tag) × (k.excess ≡ false) × (k.ordered ≡ m.ordered))
  pub none_pending : (s : ℕ) → get G.pending (replica_at b s) ≡ None

abbrev pub restamped_block_has_no_good_replica : Type 0
restamped_block_has_no_good_replica = (M : State) (b : ℕ) (stamp : Stamp) → BlockRestamped M.holdings (held_after M (Restamp b stamp)) b stamp

abbrev pub replication_is_set : Type 0
replication_is_set =
    (M : State) (b repl : ℕ) (i : BlockInfo) → get M.holdings.blocks b ≡ Some i
    → (get (held_after M (SetReplication b repl)).blocks b ≡ Some (record { stamp = i.stamp; repl = repl }))
    × ((held_after M (SetReplication b repl)).replicas ≡ M.holdings.replicas)
    × ((held_after M (SetReplication b repl)).pending ≡ M.holdings.pending)

-- Replicas.

-- a deleted replica is gone; all others, and the pending transfers, stay
abbrev pub deleted_replica_is_gone : Type 0
deleted_replica_is_gone =
    (M : State) (s b : ℕ)
    → (get (held_after M (Deleted s b)).replicas (replica_at b s) ≡ None)
    × ((p : ReplicaId) → p ≢ replica_at b s → get (held_after M (Deleted s b)).replicas p ≡ get M.holdings.replicas p)
    × ((held_after M (Deleted s b)).pending ≡ M.holdings.pending)

-- a corrupt replica is bad and not in excess; none comes, and all others, and the pending
-- transfers, stay
abbrev pub corrupt_replica_is_bad : Type 0
corrupt_replica_is_bad =
    (M : State) (s b : ℕ)
    → ((m : Marks) → get M.holdings.replicas (replica_at b s) ≡ Some m → get (held_after M (Corrupt s b)).replicas (replica_at b s) ≡ Some (record { tag = Bad; excess = false; ordered = m.ordered }))
    × (get M.holdings.replicas (replica_at b s) ≡ None → get (held_after M (Corrupt s b)).replicas (replica_at b s) ≡ None)
    × ((p : ReplicaId) → p ≢ replica_at b s → get (held_after M (Corrupt s b)).replicas p ≡ get M.holdings.replicas p)
    × ((held_after M (Corrupt s b)).pending ≡ M.holdings.pending)

-- the transfers to a storage of the blocks that its report names have arrived; all others stay
-- pending
abbrev pub report_ends_transfers : Type 0
report_ends_transfers =
    (M : State) (s : ℕ) (es : List Entry)
    → ((b : ℕ) → has (numbers_of es) b ≡ true → get (held_after M (FullReport s es)).pending (replica_at b s) ≡ None)
    × ((b : ℕ) → has (numbers_of es) b ≡ false → get (held_after M (FullReport s es)).pending (replica_at b s) ≡ get M.holdings.pending (replica_at b s))
    × ((p : ReplicaId) → p.storage ≢ s → get (held_after M (FullReport s es)).pending p ≡ get M.holdings.pending p)

abbrev pub received_ends_transfer : Type 0
received_ends_transfer =
    (M : State) (s b : ℕ) (stamp : Stamp)
    → (get (held_after M (Received s b stamp)).pending (replica_at b s) ≡ None)
    × ((p : ReplicaId) → p ≢ replica_at b s → get (held_after M (Received s b stamp)).pending p ≡ get M.holdings.pending p)

-- a report keeps the replicas of blocks that it does not name on all other storages, those of the
-- same node included
abbrev pub report_leaves_unnamed_blocks : Type 0
report_leaves_unnamed_blocks =
    (M : State) (s : ℕ) (es : List Entry) (p : ReplicaId) → p.storage ≢ s → has (numbers_of es) p.block ≡ false → get (held_after M (FullReport s es)).replicas p ≡ get M.holdings.replicas p
