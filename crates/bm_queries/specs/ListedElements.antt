-- The elements found at the slots of an arena, in their order, and the ascending lists made of
-- them.
use Rattle.std.specs.Prelude.{◌≡◌, ℕ, Bool, true, false, ◌&&◌, nat_lt, List, [], length, map, filter, flat_map, Option, Some, is_some}
use Rattle.std.specs.Option.{option_map_or, unwrap_or}
use Rattle.std.specs.List.{list_any}
use Rattle.bm_base.specs.declared.replica.Marks.{Marks}
use Rattle.bm_base.specs.declared.replica.Replica.{Replica}
use Rattle.bm_base.specs.declared.replica.BlockInfo.{BlockInfo}
use Rattle.bm_base.specs.Words.{Map, entries, Cluster, by_replica, is_corrupt, is_usable, is_live_on, is_draining}
use Rattle.bm_arena.specs.Triplets.{Block}
use Rattle.bm_arena.specs.Contents.{Contents, block_at, slot_of, marks_at, list_of}
use Rattle.bm_arena.specs.HeldMaps.{info_at, id_at}
use Rattle.bm_levels.specs.Status.{storages_at}
use Rattle.bm_queries.specs.declared.replicas.ReplicaFilter.{ReplicaFilter}
use Rattle.bm_queries.specs.declared.replicas.ReplicaFilter.TheVariants.{All, Corrupt, Excess}

-- whether a replica with these marks is listed
abbrev pub wants : ReplicaFilter → Marks → Bool
wants All m = true
wants Corrupt m = is_corrupt m.tag
wants Excess m = m.excess

-- a replica as a query shows it
abbrev pub replica_view : ℕ → ℕ × Marks → Replica
replica_view id r = record { block = id; storage = r.0; tag = r.1.tag }

-- the replicas at a slot that pass
abbrev pub listed_at : (Marks → Bool) → Option Block → List Replica
listed_at p o = option_map_or (λ (b : Block). map (replica_view b.id) (filter (λ r. p r.1) b.replicas)) o []

-- the replicas at these slots that pass
abbrev pub listed_on : (Marks → Bool) → Contents → List ℕ → List Replica
listed_on p a slots = flat_map (λ slot. listed_at p (block_at a slot)) slots

-- the replicas of a map that pass, ascending
abbrev pub replicas_passing : (Marks → Bool) → Map by_replica Marks → List Replica
replicas_passing p m = map (λ e. record { block = e.0.block; storage = e.0.storage; tag = e.1.tag }) (filter (λ e. p e.1) (entries m))

-- whether fewer replicas of a known block are live than are wanted
abbrev pub lacks_live : Cluster → Option Block → Bool
lacks_live C o = option_map_or (λ (b : Block). option_map_or (λ (i : BlockInfo). nat_lt (length (storages_at (is_live_on C) b.replicas)) i.repl) b.info false) o false

-- whether the block at a slot has a usable replica on a storage, and lacks live ones
abbrev pub holds_back_at : Cluster → Contents → ℕ → ℕ → Bool
holds_back_at C a storage slot = option_map_or is_usable (marks_at a slot storage) false && lacks_live C (block_at a slot)

-- whether such a block is in the list of a storage
abbrev pub holds_back_on : Cluster → Contents → ℕ → Bool
holds_back_on C a storage = list_any (holds_back_at C a storage) (list_of a storage)

-- whether the node of a storage drains, and a block there holds it back
abbrev pub holds_back_node : Cluster → Contents → ℕ → Bool
holds_back_node C a storage = is_draining C storage && holds_back_on C a storage

-- the known blocks at these slots, each with its number
abbrev pub known_on : Contents → List ℕ → List (ℕ × ℕ)
known_on a slots = map (λ slot. (id_at a slot, slot)) (filter (λ slot. is_some (info_at a slot)) slots)

-- a block's number with its slot
abbrev pub HasItsSlot : Contents → ℕ × ℕ → Type 0
HasItsSlot a e = slot_of a e.0 ≡ Some e.1

-- a block's number, and its slot
abbrev pub with_slot : Contents → ℕ → ℕ × ℕ
with_slot a b = (b, unwrap_or (slot_of a b) 0)
