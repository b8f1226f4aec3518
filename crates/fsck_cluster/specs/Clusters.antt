-- A cluster that is read block by block.
use Rattle.std.specs.Prelude.{◌≡◌, ⊤, ℕ, ◌||◌, Bool, false, not, nat_lt, length, List, [], ◌∷◌, ◌++◌, Option, Some, None, unwrap_or, position, slice_get, Result, Ok, Err, if◌then◌else◌, codes}
use Rattle.std.specs.Option.{option_map_or}
use Rattle.std.specs.Str.{bytes_eq}
use Rattle.bm_base.specs.declared.limits.TheConstants.{MOST_NODES, MOST_STORAGES}
use Rattle.bm_base.specs.declared.replica.Stamp.{Stamp}
use Rattle.fsck_text.specs.Cuts.{Text}
use Rattle.fsck_text.specs.Wrongs.{after_ok}
use Rattle.fsck_text.specs.declared.place.Place.{Place}
use Rattle.fsck_text.specs.declared.list.ListedReplica.{ListedReplica}
use Rattle.fsck_files.specs.Numbers.{with_number}
use Rattle.fsck_files.specs.Replicas.{is_corrupt, is_draining}
use Rattle.fsck_files.specs.declared.replicas.Block.{Block}
use Rattle.fsck_cluster.specs.Names.{is_new, name_number, name_of, with_name}
use Rattle.fsck_cluster.specs.Blocks.{has_block, with_block}
use Rattle.fsck_cluster.specs.Rows.{new_row, ends_with, with_held_at, has_storage}
use Rattle.fsck_cluster.specs.declared.cluster.Bad.{Bad}
use Rattle.fsck_cluster.specs.declared.cluster.Cluster.{Cluster}
use Rattle.fsck_cluster.specs.declared.cluster.ClusterFault.{ClusterFault}
use Rattle.fsck_cluster.specs.declared.cluster.ClusterFault.TheVariants as fault
use Rattle.fsck_cluster.specs.declared.cluster.NodeRow.{NodeRow}
use Rattle.fsck_cluster.specs.declared.cluster.Why.{Why}
use Rattle.fsck_cluster.specs.declared.cluster.Why.TheVariants as why
use Rattle.fsck_cluster.specs.declared.rows.Row.{Row}

-- nothing was read
abbrev pub no_cluster : Cluster
no_cluster = record {
  racks = [];
  nodes = [];
  node_rows = [];
  knows_nodes = false;
  storages = [];
  rows = [];
  blocks = [];
  bad = [];
  draining = [];
}

-- the cluster after a step, or why the step is refused
abbrev pub After : Type 0
After = Result Cluster Why

-- the rack of a place; Hadoop's name of the default rack if the place has none
abbrev pub rack_name : Option Text → Text
rack_name rack = unwrap_or rack (codes "/default-rack")

-- whether a place fits its node's rack: it names this rack, or none if the report on DataNodes was
-- read or the rack is the default one
abbrev pub fits_rack : Cluster → Option Text → NodeRow → Bool
fits_rack c (Some rack) row = bytes_eq (name_of c.racks row.rack) rack
fits_rack c None row = c.knows_nodes || bytes_eq (name_of c.racks row.rack) (codes "/default-rack")

-- `fits_rack` for the node at an index
abbrev pub is_on_rack : Cluster → ℕ → Option Text → Bool
is_on_rack c index rack = option_map_or (fits_rack c rack) (slice_get c.node_rows index) false

-- adds the node of a place
abbrev pub after_new_node : Cluster → Place → Cluster
after_new_node c p = record c {
  racks = with_name c.racks (rack_name p.rack);
  nodes = with_name c.nodes p.address;
  node_rows = c.node_rows ++ record { number = name_number c.nodes p.address; rack = name_number c.racks (rack_name p.rack); remaining = None } ∷ [];
}

abbrev pub with_new_node : Cluster → Place → After
with_new_node c p =
    if c.knows_nodes then Err why.UnknownNode
    else (if nat_lt (length c.nodes) MOST_NODES then Ok (after_new_node c p) else Err why.TooManyNodes)

abbrev pub at_node : Cluster → Place → Option ℕ → After
at_node c p (Some index) = if is_on_rack c index p.rack then Ok c else Err why.Elsewhere
at_node c p None = with_new_node c p

-- adds the node of a place; a known one must be on the same rack
abbrev pub after_node : Cluster → Place → After
after_node c p = at_node c p (position (bytes_eq p.address) c.nodes)

-- whether the storage at an index is on a node
abbrev pub is_on_node : Cluster → ℕ → Text → Bool
is_on_node c index address = option_map_or (λ row. bytes_eq (name_of c.nodes row.node) address) (slice_get c.rows index) false

-- adds the storage of a place
abbrev pub after_new_storage : Cluster → Place → Cluster
after_new_storage c p = record c {
  nodes = with_name c.nodes p.address;
  storages = with_name c.storages p.storage;
  rows = c.rows ++ new_row (name_number c.storages p.storage) (name_number c.nodes p.address) ∷ [];
}

abbrev pub at_storage : Cluster → Place → Option ℕ → After
at_storage c p (Some index) = if is_on_node c index p.address then Ok c else Err why.Elsewhere
at_storage c p None = if nat_lt (length c.storages) MOST_STORAGES then Ok (after_new_storage c p) else Err why.TooManyStorages

-- adds the storage of a place; a known one must be on the same node
abbrev pub after_storage : Cluster → Place → After
after_storage c p = at_storage c p (position (bytes_eq p.storage) c.storages)

-- lists a replica as corrupt, if it is
abbrev pub with_bad : Cluster → Bad → Bool → Cluster
with_bad c b corrupt = record c { bad = if corrupt then c.bad ++ b ∷ [] else c.bad }

-- lists a node as draining, if it does
abbrev pub with_draining : Cluster → ℕ → Bool → Cluster
with_draining c node drains = record c { draining = if drains then with_number c.draining node else c.draining }

-- adds a replica of a block to the storage at an index
abbrev pub with_replica : Cluster → ℕ → ℕ → Stamp → Cluster
with_replica c at id stamp = record c { rows = with_held_at c.rows at (record { id = id; stamp = stamp }) }

-- adds a replica to the storage at an index, with the marks of the replica and of its node
abbrev pub with_listed : Cluster → Block → ListedReplica → ℕ → Row → Cluster
with_listed c b l at row =
    with_draining (with_bad (with_replica c at b.id b.stamp) (record { storage = row.number; id = b.id }) (is_corrupt l.mark b.is_corrupt)) row.node (is_draining l.mark)

-- a storage has at most one replica of a block
abbrev pub on_row : Cluster → Block → ListedReplica → ℕ → Row → After
on_row c b l at row = if ends_with row b.id then Err why.StorageTwice else Ok (with_listed c b l at row)

-- adds a replica to the storage of its place, which is known
abbrev pub after_replica : Cluster → Block → ListedReplica → After
after_replica c b l =
    option_map_or (λ at. option_map_or (on_row c b l at) (slice_get c.rows at) (Ok c)) (position (bytes_eq l.place.storage) c.storages) (Ok c)

-- adds one replica, which may be the first on its rack, its node or its storage
abbrev pub after_place : Cluster → Block → ListedReplica → After
after_place c b l = after_ok (λ e. after_replica e b l) (after_ok (λ d. after_storage d l.place) (after_node c l.place))

-- adds the replicas of a block, one after another
abbrev pub after_places : Cluster → Block → List ListedReplica → After
after_places c b [] = Ok c
after_places c b (l ∷ ls) = after_ok (λ d. after_places d b ls) (after_place c b l)

-- adds a block and its replicas
abbrev pub after_block : Cluster → Block → After
after_block c b =
    if has_block c.blocks b.id then Err why.BlockTwice
    else after_places (record c { blocks = with_block c.blocks b.id (record { stamp = b.stamp; repl = b.wanted }) }) b b.replicas

-- adds a storage of the node's own name
abbrev pub with_spare : Cluster → ℕ → Cluster
with_spare c node = record c {
  storages = with_name c.storages (name_of c.nodes node);
  rows = c.rows ++ new_row (name_number c.storages (name_of c.nodes node)) node ∷ [];
}

-- adds a storage for a node without one; a storage of this name on another node is refused
abbrev pub after_spare : Cluster → ℕ → After
after_spare c node =
    if has_storage c.rows node then Ok c
    else (if not (is_new c.storages (name_of c.nodes node)) then Err why.Elsewhere
    else (if nat_lt (length c.storages) MOST_STORAGES then Ok (with_spare c node) else Err why.TooManyStorages))

-- adds a storage for each of several nodes without one
abbrev pub after_spares : Cluster → List NodeRow → After
after_spares c [] = Ok c
after_spares c (row ∷ rows) = after_ok (λ d. after_spares d rows) (after_spare c row.number)

-- Adds a storage for each node without one, if the nodes are known from the report on DataNodes. No
-- text has the names of storages without replicas.
abbrev pub with_spares : Cluster → After
with_spares c = if c.knows_nodes then after_spares c c.node_rows else Ok c

-- the fault is this refusal, or out of memory
abbrev pub IsCause : ClusterFault → After → Type 0
IsCause fault.Memory after = ⊤
IsCause (fault.Refused w) after = after ≡ Err w
