-- The effect of each event on a state. `Refusals` defines whether it is accepted. Source: HDFS
-- Architecture guide, "Data Replication" and "Data Disk Failure, Heartbeats and Re-Replication";
-- Hadoop 2's BlockManager (processReport, addStoredBlock, markBlockAsCorrupt, removeBlock) and
-- BlockInfo; GFS paper, section 4.
use Rattle.std.specs.Prelude.{ℕ, Bool, false, not, ◌&&◌, if◌then◌else◌, ◌==◌, List, [], ◌∷◌, map}
use Rattle.std.specs.Option.{option_map_or}
use Rattle.std.specs.List.{list_any}
use Rattle.bm_base.specs.declared.replica.ReplicaId.{ReplicaId}
use Rattle.bm_base.specs.declared.replica.Tag.{Tag}
use Rattle.bm_base.specs.declared.replica.Tag.TheVariants.{Good, Stale, Bad, Stray}
use Rattle.bm_base.specs.declared.replica.Marks.{Marks}
use Rattle.bm_base.specs.declared.replica.BlockInfo.{BlockInfo}
use Rattle.bm_base.specs.declared.replica.Stamp.{Stamp}
use Rattle.bm_base.specs.declared.storage.StorageInfo.{StorageInfo}
use Rattle.bm_base.specs.declared.event.Remaining.{Remaining}
use Rattle.bm_base.specs.declared.event.Event.{Event}
use Rattle.bm_base.specs.declared.event.Event.TheVariants.{Register, Dead, StorageFailed, Heartbeat, Drain, Undrain, AddBlock, DeleteBlock, SetReplication, Restamp, Received, Deleted, Corrupt, FullReport}
use Rattle.bm_base.specs.Maps.Map.{Map, by_number, get, insert, insert_all, without, revise, revise_at, remove}
use Rattle.bm_base.specs.Maps.Lists.{has_some}
use Rattle.bm_base.specs.Machine.State.{Cluster, Holdings, State, replica_at}
use Rattle.bm_base.specs.Machine.Replicas.{is_good, is_bad, has_storage, are_siblings, drains}
use Rattle.bm_base.specs.Machine.Entries.{ReportedBlock, expanded}

abbrev pub same_stamp : Stamp → Stamp → Bool
same_stamp a b = (a.generation == b.generation) && (a.len == b.len)

-- The cluster.

-- adds a node that does not drain, and its storages with 0 remaining bytes
unfoldable pub register : Cluster → ℕ → ℕ → List ℕ → Cluster
register C n rack ss = record C {
  nodes = insert C.nodes n rack;
  draining = remove C.draining n;
  storages = insert_all C.storages (map (λ s. (s, record { node = n; remaining = 0 })) ss);
}

-- sets the remaining bytes of known storages, one after another, so that the last value of a
-- storage counts
abbrev pub set_remaining : Map by_number StorageInfo → List Remaining → Map by_number StorageInfo
set_remaining m [] = m
set_remaining m (r ∷ rs) =
    set_remaining (revise_at m r.storage (λ i. record i { remaining = r.remaining })) rs

unfoldable pub heartbeat : Cluster → List Remaining → Cluster
heartbeat C rs = record C { storages = set_remaining C.storages rs }

unfoldable pub without_node : Cluster → ℕ → Cluster
without_node C n = record C {
  nodes = remove C.nodes n;
  draining = remove C.draining n;
  storages = without C.storages (has_storage C n);
}

unfoldable pub without_storage : Cluster → ℕ → Cluster
without_storage C s = record C { storages = remove C.storages s }

unfoldable pub drain : Cluster → ℕ → Cluster
drain C n = record C { draining = insert C.draining n tt }

unfoldable pub undrain : Cluster → ℕ → Cluster
undrain C n = record C { draining = remove C.draining n }

-- Entering a reported replica. "Was" is about the holdings before it is entered.

unfoldable pub was_bad : Holdings → ReplicaId → Bool
was_bad H p = has_some (get H.replicas p) (λ m. is_bad m.tag)

unfoldable pub was_excess : Holdings → ReplicaId → Bool
was_excess H p = has_some (get H.replicas p) (λ m. m.excess)

-- the tag by a known block: bad if the replica was bad; else good if the stamp is the block's; else
-- stale
abbrev pub tag_of_known : Bool → Stamp → BlockInfo → Tag
tag_of_known bad stamp i = if bad then Bad else if same_stamp stamp i.stamp then Good else Stale

-- the tag of an entered replica: stray if its block is not known
unfoldable pub entered_tag : Holdings → ReplicaId → Stamp → Tag
entered_tag H p stamp =
    option_map_or (tag_of_known (was_bad H p) stamp) (get H.blocks p.block) Stray

-- the marks of an entered replica: in excess if it was so and is good now; not ordered
unfoldable pub entered_marks : Holdings → ReplicaId → Stamp → Marks
entered_marks H p stamp = record {
  tag = entered_tag H p stamp;
  excess = is_good (entered_tag H p stamp) && was_excess H p;
  ordered = false;
}

-- whether entering p replaces q: a replica of the same block on another storage of the node
unfoldable pub replaces : Cluster → ReplicaId → ReplicaId → Bool
replaces C p q = (q.block == p.block) && are_siblings C p.storage q.storage

-- enters a replica, drops those that it replaces, and ends the transfer to it
unfoldable pub enter : Cluster → Holdings → ReplicaId → Stamp → Holdings
enter C H p stamp = record H {
  replicas = insert (without H.replicas (replaces C p)) p (entered_marks H p stamp);
  pending = remove H.pending p;
}

-- A full report of storage s, by the blocks that its entries report.

unfoldable pub is_named : List ReportedBlock → ℕ → Bool
is_named ts b = list_any (λ t. t.id == b) ts

-- whether a replica leaves by the report: one on s that it does not name, or one of a named block
-- on another storage of the node
unfoldable pub leaves_by_report : Cluster → ℕ → List ReportedBlock → ReplicaId → Bool
leaves_by_report C s ts q =
    if q.storage == s then not (is_named ts q.block)
    else is_named ts q.block && are_siblings C s q.storage

-- Enters each named replica; the last entry of a block counts, since it is inserted last. Drops
-- those that leave by the report, and ends the transfers to the named replicas. "Was" is about the
-- holdings before the report.
unfoldable pub report : Cluster → Holdings → ℕ → List ReportedBlock → Holdings
report C H s ts = record H {
  replicas =
      insert_all (without H.replicas (leaves_by_report C s ts))
      (map (λ t. (replica_at t.id s, entered_marks H (replica_at t.id s) t.stamp)) ts);
  pending = without H.pending (λ q. (q.storage == s) && is_named ts q.block);
}

-- Blocks.

unfoldable pub without_pending : Holdings → ℕ → Holdings
without_pending H b = record H { pending = without H.pending (λ q. q.block == b) }

-- changes the marks of the block's replicas
unfoldable pub change_marks_of_block : Holdings → ℕ → (Marks → Marks) → Holdings
change_marks_of_block H b f =
    record H { replicas = revise H.replicas (λ q m. if q.block == b then f m else m) }

-- The marks of a replica whose block is deleted. Here and in the next two changes, the mark
-- `ordered` stays.
abbrev pub as_stray : Marks → Marks
as_stray m = record m { tag = Stray; excess = false }

-- the marks of a replica that is found corrupt
abbrev pub as_bad : Marks → Marks
as_bad m = record m { tag = Bad; excess = false }

-- the marks of a replica whose block gets another stamp
abbrev pub as_restamped : Marks → Marks
as_restamped m = record m { tag = (if is_good m.tag then Stale else m.tag); excess = false }

-- makes a block known; if nothing refuses it, the block has no replica yet
unfoldable pub add_block : Holdings → ℕ → Stamp → ℕ → Holdings
add_block H b stamp repl =
    record H { blocks = insert H.blocks b (record { stamp = stamp; repl = repl }) }

-- makes a block unknown and its replicas stray, and drops its transfers
unfoldable pub delete_block : Holdings → ℕ → Holdings
delete_block H b =
    let G = without_pending (change_marks_of_block H b as_stray) b in
    record G { blocks = remove G.blocks b }

unfoldable pub set_replication : Holdings → ℕ → ℕ → Holdings
set_replication H b repl =
    record H { blocks = revise_at H.blocks b (λ i. record i { repl = repl }) }

-- gives a block another stamp, makes its good replicas stale and none in excess, and drops its
-- transfers
unfoldable pub restamp : Holdings → ℕ → Stamp → Holdings
restamp H b stamp =
    let G = without_pending (change_marks_of_block H b as_restamped) b in
    record G { blocks = revise_at G.blocks b (λ i. record i { stamp = stamp }) }

-- makes a replica bad, if it exists
unfoldable pub make_bad : Holdings → ReplicaId → Holdings
make_bad H p = record H { replicas = revise_at H.replicas p as_bad }

unfoldable pub remove_replica : Holdings → ReplicaId → Holdings
remove_replica H p = record H { replicas = remove H.replicas p }

-- drops the replicas on the storages that pass, and the transfers to them
unfoldable pub without_storages : Holdings → (ℕ → Bool) → Holdings
without_storages H gone = record H {
  replicas = without H.replicas (λ q. gone q.storage);
  pending = without H.pending (λ q. gone q.storage);
}

-- A node begins to drain: the transfers to its storages are dropped. Nothing changes if it drains
-- already.
unfoldable pub begin_drain : Cluster → Holdings → ℕ → Holdings
begin_drain C H n =
    if drains C n then H
    else record H { pending = without H.pending (λ q. has_storage C n q.storage) }

-- the cluster after an event
unfoldable pub change_cluster : Cluster → Event → Cluster
change_cluster C (Register n rack ss) = register C n rack ss
change_cluster C (Dead n) = without_node C n
change_cluster C (StorageFailed s) = without_storage C s
change_cluster C (Heartbeat n rs) = heartbeat C rs
change_cluster C (Drain n) = drain C n
change_cluster C (Undrain n) = undrain C n
change_cluster C _ = C

-- the blocks and replicas after an event; C is the cluster before it
unfoldable pub change_holdings : Cluster → Holdings → Event → Holdings
change_holdings C H (Dead n) = without_storages H (has_storage C n)
change_holdings C H (StorageFailed s) = without_storages H (λ t. t == s)
change_holdings C H (Drain n) = begin_drain C H n
change_holdings C H (AddBlock b stamp repl) = add_block H b stamp repl
change_holdings C H (DeleteBlock b) = delete_block H b
change_holdings C H (SetReplication b repl) = set_replication H b repl
change_holdings C H (Restamp b stamp) = restamp H b stamp
change_holdings C H (Received s b stamp) = enter C H (replica_at b s) stamp
change_holdings C H (Deleted s b) = remove_replica H (replica_at b s)
change_holdings C H (Corrupt s b) = make_bad H (replica_at b s)
change_holdings C H (FullReport s es) = report C H s (expanded es)
change_holdings C H _ = H

abbrev pub change : State → Event → State
change M e = record M {
  cluster = change_cluster M.cluster e;
  holdings = change_holdings M.cluster M.holdings e;
}
