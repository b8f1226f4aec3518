-- The calls that build a cluster in a manager.
use Rattle.std.specs.Prelude.{ℕ, ◌/◌, max, Bool, List, ◌∷◌, ◌++◌, map, filter, length, take, drop, Option, Some, None}
use Rattle.std.specs.List.{flat_map}
use Rattle.bm_base.specs.declared.call.Call.{Call}
use Rattle.bm_base.specs.declared.call.Call.TheVariants as call
use Rattle.bm_base.specs.declared.event.Entry.{Entry}
use Rattle.bm_base.specs.declared.event.Event.TheVariants.{Register, Heartbeat, AddBlock, FullReport, Received, Corrupt, Drain}
use Rattle.bm_base.specs.declared.event.Remaining.{Remaining}
use Rattle.bm_base.specs.declared.limits.TheConstants.{MAX_ENTRIES}
use Rattle.bm_base.specs.declared.replica.BlockInfo.{BlockInfo}
use Rattle.fsck_files.specs.Numbers.{has_number}
use Rattle.fsck_cluster.specs.Rows.{storages_of}
use Rattle.fsck_cluster.specs.declared.cluster.Bad.{Bad}
use Rattle.fsck_cluster.specs.declared.cluster.Cluster.{Cluster}
use Rattle.fsck_cluster.specs.declared.cluster.NodeRow.{NodeRow}
use Rattle.fsck_cluster.specs.declared.rows.StoredReplica.{StoredReplica}
use Rattle.fsck_cluster.specs.declared.rows.Row.{Row}

-- registers a node with its storages
abbrev pub register : List Row → NodeRow → Call
register rows node = call.Apply (Register node.number node.rack (storages_of rows node.number))

-- the free bytes of each storage of a node: the node's bytes divided evenly, or the option's value
abbrev pub free_on : ℕ → Option ℕ → ℕ → ℕ
free_on remaining (Some bytes) storages = bytes / max 1 storages
free_on remaining None storages = remaining

-- each of these storages has the same number of free bytes
abbrev pub remaining_on : ℕ → List ℕ → List Remaining
remaining_on bytes storages = map (λ storage. record { storage = storage; remaining = bytes }) storages

-- the heartbeat with the free bytes of a node's storages
abbrev pub heartbeat : List Row → ℕ → NodeRow → Call
heartbeat rows remaining node =
    let storages = storages_of rows node.number in
    call.Apply (Heartbeat node.number (remaining_on (free_on remaining node.remaining (length storages)) storages))

-- adds a block
abbrev pub add : ℕ × BlockInfo → Call
add b = call.Apply (AddBlock b.0 b.1.stamp b.1.repl)

-- a replica, as an entry of a report
abbrev pub entry : StoredReplica → Entry
entry h = record { from = h.id; to = h.id; stamp = h.stamp }

-- the notice of a received replica
abbrev pub received : ℕ → StoredReplica → Call
received storage h = call.Apply (Received storage h.id h.stamp)

-- all replicas on a storage: a report of those that fit into it, then a notice for each of the
-- others
abbrev pub reports : Row → List Call
reports row =
    call.Apply (FullReport row.number (map entry (take MAX_ENTRIES row.held))) ∷ map (received row.number) (drop MAX_ENTRIES row.held)

-- marks a replica as corrupt
abbrev pub corrupt : Bad → Call
corrupt b = call.Apply (Corrupt b.storage b.id)

-- decommissions a node
abbrev pub drain : NodeRow → Call
drain node = call.Apply (Drain node.number)

-- the nodes with their storages, their free bytes, and the blocks
abbrev pub calls_before : Cluster → ℕ → List Call
calls_before c remaining =
    map (register c.rows) c.node_rows ++ map (heartbeat c.rows remaining) c.node_rows ++ map add c.blocks

-- whether a node is being decommissioned or is decommissioned
abbrev pub drains : Cluster → NodeRow → Bool
drains c node = has_number c.draining node.number

abbrev pub draining : Cluster → List NodeRow
draining c = filter (drains c) c.node_rows

-- the replicas, the corrupt ones among them, and the nodes that are decommissioned
abbrev pub calls_after : Cluster → List Call
calls_after c = flat_map reports c.rows ++ map corrupt c.bad ++ map drain (draining c)

-- each replica comes after its block, and is reported before it is marked as corrupt
abbrev pub calls_for : Cluster → ℕ → List Call
calls_for c remaining = calls_before c remaining ++ calls_after c
