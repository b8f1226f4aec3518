-- Definitions on replicas and their storages. Source: HDFS Architecture guide, "Replica Placement:
-- The First Baby Steps"; Hadoop 2's NumberReplicas.
use Rattle.std.specs.Prelude.{ℕ, Bool, true, false, not, ◌&&◌, ◌==◌, nat_lt, nat_le, List, ◌++◌, map, filter, filter_map, length, Option, option_and_then, option_map}
use Rattle.std.specs.Option.{option_map_or}
use Rattle.bm_base.specs.declared.replica.Tag.{Tag}
use Rattle.bm_base.specs.declared.replica.Tag.TheVariants.{Good, Stale, Bad, Stray}
use Rattle.bm_base.specs.declared.replica.Marks.{Marks}
use Rattle.bm_base.specs.Maps.Map.{get, contains_key, entries, values}
use Rattle.bm_base.specs.Machine.State.{Cluster, Holdings}
use Rattle.bm_base.specs.Maps.Lists.{distinct, has_some}

abbrev pub is_good : Tag → Bool
is_good Good = true
is_good _ = false

abbrev pub is_stale : Tag → Bool
is_stale Stale = true
is_stale _ = false

abbrev pub is_bad : Tag → Bool
is_bad Bad = true
is_bad _ = false

abbrev pub is_stray : Tag → Bool
is_stray Stray = true
is_stray _ = false

-- whether a tag is that of a corrupt replica: stale or bad
abbrev pub is_corrupt : Tag → Bool
is_corrupt Stale = true
is_corrupt Bad = true
is_corrupt _ = false

-- usable: good, and not in excess. On a node that drains it is drained, elsewhere live.
abbrev pub is_usable : Marks → Bool
is_usable m = is_good m.tag && not m.excess

-- the node of a storage, and its rack
unfoldable pub node_of : Cluster → ℕ → Option ℕ
node_of C s = option_map (λ i. i.node) (get C.storages s)

unfoldable pub rack_of : Cluster → ℕ → Option ℕ
rack_of C s = option_and_then (λ n. get C.nodes n) (node_of C s)

-- the remaining bytes of a storage; 0 of an unknown storage
unfoldable pub remaining : Cluster → ℕ → ℕ
remaining C s = option_map_or (λ i. i.remaining) (get C.storages s) 0

-- whether storage s is one of node n
unfoldable pub has_storage : Cluster → ℕ → ℕ → Bool
has_storage C n s = has_some (node_of C s) (λ m. m == n)

-- whether node n drains, and whether storage s is on a node that does
unfoldable pub drains : Cluster → ℕ → Bool
drains C n = contains_key C.draining n

unfoldable pub is_draining : Cluster → ℕ → Bool
is_draining C s = has_some (node_of C s) (drains C)

-- whether two storages are of one node
abbrev pub share_node : Cluster → ℕ → ℕ → Bool
share_node C s t = has_some (node_of C s) (λ n. has_storage C n t)

-- whether two storages are different ones of one node
unfoldable pub are_siblings : Cluster → ℕ → ℕ → Bool
are_siblings C s t = not (t == s) && share_node C s t

-- the storages of the block's replicas that pass a test of storage and marks, ascending
unfoldable pub storages_where : (ℕ → Marks → Bool) → Holdings → ℕ → List ℕ
storages_where p H b =
    map (λ e. e.0.storage)
    (filter (λ e. (e.0.block == b) && p e.0.storage e.1) (entries H.replicas))

-- whether a replica on storage s with these marks is live: usable, on a node that does not drain
abbrev pub is_live_on : Cluster → ℕ → Marks → Bool
is_live_on C s m = is_usable m && not (is_draining C s)

-- whether it is drained: usable, on a node that drains
abbrev pub is_drained_on : Cluster → ℕ → Marks → Bool
is_drained_on C s m = is_usable m && is_draining C s

-- the storages of the block's live replicas, of its drained ones, and of both, which can be the
-- source of a copy
abbrev pub live : Cluster → Holdings → ℕ → List ℕ
live C H b = storages_where (is_live_on C) H b

abbrev pub drained : Cluster → Holdings → ℕ → List ℕ
drained C H b = storages_where (is_drained_on C) H b

abbrev pub sources_of : Cluster → Holdings → ℕ → List ℕ
sources_of C H b = live C H b ++ drained C H b

-- the sources in ascending order: the storages of the block's usable replicas
abbrev pub usable : Holdings → ℕ → List ℕ
usable H b = storages_where (λ _ m. is_usable m) H b

-- whether a known block has at least the wanted number of live replicas
unfoldable pub has_enough_live : Cluster → Holdings → ℕ → Bool
has_enough_live C H b = has_some (get H.blocks b) (λ i. nat_le i.repl (length (live C H b)))

-- whether two storages are on one rack
unfoldable pub share_rack : Cluster → ℕ → ℕ → Bool
share_rack C s t = has_some (rack_of C s) (λ r. has_some (rack_of C t) (λ q. q == r))

-- the racks of storages, each once, ascending
unfoldable pub racks : Cluster → List ℕ → List ℕ
racks C ss = distinct (filter_map (rack_of C) ss)

-- the alive nodes are on two racks or more
unfoldable pub is_multi_rack : Cluster → Bool
is_multi_rack C = nat_lt 1 (length (distinct (values (entries C.nodes))))
