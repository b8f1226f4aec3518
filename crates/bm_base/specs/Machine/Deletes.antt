-- A round's deletes: which replicas are to be deleted, and which of these are commanded. Source:
-- Hadoop 2's InvalidateBlocks and BlockManager.computeInvalidateWork; GFS paper, section 4.4
-- (garbage collection).
use Rattle.std.specs.Prelude.{ℕ, Bool, not, ◌&&◌, ◌||◌, if◌then◌else◌, ◌==◌, List, [], map, filter, flat_map, take}
use Rattle.bm_base.specs.declared.replica.ReplicaId.{ReplicaId}
use Rattle.bm_base.specs.declared.replica.Marks.{Marks}
use Rattle.bm_base.specs.declared.commands.Delete.{Delete}
use Rattle.bm_base.specs.Maps.Map.{entries, keys}
use Rattle.bm_base.specs.Machine.State.{RoundLimits, Cluster, Holdings}
use Rattle.bm_base.specs.Machine.Replicas.{is_corrupt, is_stray, has_storage, has_enough_live}

-- whether a replica is to be deleted and its delete was not ordered: a stray one, one in excess, or
-- a corrupt one of a block with enough live replicas
unfoldable pub is_deletable : Cluster → Holdings → ReplicaId → Marks → Bool
is_deletable C H q m =
    not m.ordered
    && (is_stray m.tag || m.excess || (is_corrupt m.tag && has_enough_live C H q.block))

-- the deletable replicas on a storage, by block
unfoldable pub deletable_on : Cluster → Holdings → ℕ → List Delete
deletable_on C H s =
    map (λ e. record { storage = s; block = e.0.block })
    (filter (λ e. (e.0.storage == s) && is_deletable C H e.0 e.1) (entries H.replicas))

-- what a node is commanded to delete: the first `invalidate`, by storage and then by block
unfoldable pub deletes_of : RoundLimits → Cluster → Holdings → ℕ → List Delete
deletes_of limits C H n =
    take limits.invalidate
    (flat_map (λ s. if has_storage C n s then deletable_on C H s else []) (keys C.storages))

-- what all nodes are commanded to delete, by node
unfoldable pub deletes : RoundLimits → Cluster → Holdings → List Delete
deletes limits C H = flat_map (deletes_of limits C H) (keys C.nodes)
