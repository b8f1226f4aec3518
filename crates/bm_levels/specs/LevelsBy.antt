-- Levels by given racks and draining nodes, which need not be those of one cluster.
use Rattle.std.specs.Prelude.{◌≡◌, ℕ, if◌then◌else◌, Bool, true, Option, IsSome}
use Rattle.bm_base.specs.declared.replica.ReplicaId.{ReplicaId}
use Rattle.bm_base.specs.Words.{get, Cluster, rack_of, has_storage, is_draining, drain, undrain}
use Rattle.bm_maps.specs.SlotLists.{IsMember}
use Rattle.bm_arena.specs.Contents.{Contents, block_at, list_of}
use Rattle.bm_arena.specs.HeldMaps.{replicas_of}
use Rattle.bm_levels.specs.Status.{level_by}
use Rattle.bm_levels.specs.IndexedLevels.{level_of_slot}
use Rattle.bm_levels.specs.LeveledBlocks.{Leveled}

-- the level of each slot is that of its block, for these racks of storages, these storages on
-- draining nodes, and one rack or several
abbrev pub AreLevelsBy : (ℕ → Option ℕ) → (ℕ → Bool) → Bool → Leveled → Type 0
AreLevelsBy rack draining multi v = (slot : ℕ) → level_of_slot v.level_index slot ≡ level_by rack draining multi (block_at v.arena slot)

-- as `AreLevelsBy`, by the racks and the draining nodes of a cluster; whether its alive nodes are
-- on two racks or more is a separate argument
abbrev pub AreLevelsWith : Cluster → Bool → Leveled → Type 0
AreLevelsWith C multi v = AreLevelsBy (rack_of C) (is_draining C) multi v

-- a change keeps the levels right by whatever racks and draining nodes
abbrev pub KeepsAllLevels : Leveled → Leveled → Type 0
KeepsAllLevels old new =
    (rack : ℕ → Option ℕ) (draining : ℕ → Bool) (multi : Bool) → AreLevelsBy rack draining multi old → AreLevelsBy rack draining multi new

-- the storage of each replica is on the same rack in D as in C, and drains in D exactly if it does
-- in C
pub record IsSameForHeld (C D : Cluster) (a : Contents) : Type 0 where
  pub rack : (q : ReplicaId) → IsSome (get (replicas_of a) q) → rack_of D q.storage ≡ rack_of C q.storage
  pub draining : (q : ReplicaId) → IsSome (get (replicas_of a) q) → is_draining D q.storage ≡ is_draining C q.storage

-- no storage of a node has the slot in its list
abbrev pub IsOff : Cluster → ℕ → Contents → ℕ → Type 0
IsOff C node a slot = (storage : ℕ) → has_storage C node storage ≡ true → IsMember slot (list_of a storage) → ⊥

-- the cluster once a node begins or ceases to drain
abbrev pub with_draining : Cluster → ℕ → Bool → Cluster
with_draining C node drains = if drains then drain C node else undrain C node
