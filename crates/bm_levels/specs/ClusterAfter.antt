-- Levels and statuses in the cluster after an event.
use Rattle.std.specs.Prelude.{◌≡◌, ◌⊎◌, ℕ, Bool, List, Option, Some, slice_get, slice_index_or}
use Rattle.bm_base.specs.declared.replica.Level.{Level}
use Rattle.bm_maps.specs.SlotLists.{IsMember}
use Rattle.bm_base.specs.Machine.Replicas.{rack_of, has_storage}
use Rattle.bm_arena.specs.Triplets.{Block}
use Rattle.bm_arena.specs.Contents.{Contents, block_at, list_of}
use Rattle.bm_levels.specs.declared.classification.ClusterAfter.{ClusterAfter}
use Rattle.bm_levels.specs.declared.classification.BlockStatus.{BlockStatus}
use Rattle.bm_levels.specs.Status.{level_by, drains_after_change}
use Rattle.bm_levels.specs.IndexedLevels.{IndexedLevels, IsClassified, IsStatusOf, IsSameAt}
use Rattle.bm_levels.specs.LeveledBlocks.{Leveled}
use Rattle.bm_levels.specs.LevelsBy.{AreLevelsBy, IsOff}

-- the rack of a storage, whether it is on a node that drains after the event, and whether it is on
-- a given node
abbrev pub rack_after : ClusterAfter → ℕ → Option ℕ
rack_after A = rack_of A.topology.now.cluster

abbrev pub drains_after : ClusterAfter → ℕ → Bool
drains_after A = drains_after_change A.topology.now.cluster A.drain_change

abbrev pub is_on_node : ClusterAfter → ℕ → ℕ → Bool
is_on_node A node = has_storage A.topology.now.cluster node

-- the level of the block at a slot
abbrev pub level_after : ClusterAfter → Option Block → Option Level
level_after A o = level_by (rack_after A) (drains_after A) A.multi o

-- the status of a block, and of the blocks at these slots, index by index
abbrev pub IsStatusAfter : ClusterAfter → Option Block → BlockStatus → Type 0
IsStatusAfter A o j = IsStatusOf (rack_after A) (drains_after A) A.multi o j

abbrev pub AreStatusesAfter : ClusterAfter → Contents → List ℕ → List BlockStatus → Type 0
AreStatusesAfter A a slots js =
    (i slot : ℕ) (default : BlockStatus) → slice_get slots i ≡ Some slot → IsStatusAfter A (block_at a slot) (slice_index_or js i default)

-- a slot has the status of its block, and so has each of these
abbrev pub IsClassifiedAfter : ClusterAfter → Option Block → IndexedLevels → ℕ → Type 0
IsClassifiedAfter A o K slot = IsClassified (rack_after A) (drains_after A) A.multi o K slot

abbrev pub AreClassifiedAfter : ClusterAfter → Contents → List ℕ → IndexedLevels → Type 0
AreClassifiedAfter A a slots K = (slot : ℕ) → IsMember slot slots → IsClassifiedAfter A (block_at a slot) K slot

-- each slot has the status of its block, or its status is as before and it is not in the storage's
-- list
abbrev pub AreClassifiedOnStorage : ClusterAfter → ℕ → Contents → IndexedLevels → IndexedLevels → Type 0
AreClassifiedOnStorage A storage a old new =
    (slot : ℕ) → IsClassifiedAfter A (block_at a slot) new slot ⊎ (IsSameAt old new slot × (IsMember slot (list_of a storage) → ⊥))

-- each slot has the status of its block, or its status is as before and it is in no list of the
-- node's storages
abbrev pub AreClassifiedOnNode : ClusterAfter → ℕ → Contents → IndexedLevels → IndexedLevels → Type 0
AreClassifiedOnNode A node a old new =
    (slot : ℕ) → IsClassifiedAfter A (block_at a slot) new slot ⊎ (IsSameAt old new slot × IsOff A.topology.now.cluster node a slot)

-- the level of each slot is that of its block
abbrev pub AreLevelsAfter : ClusterAfter → Leveled → Type 0
AreLevelsAfter A v = AreLevelsBy (rack_after A) (drains_after A) A.multi v

-- a change keeps the level of each slot that of its block
abbrev pub KeepsLevelsAfter : ClusterAfter → Leveled → Leveled → Type 0
KeepsLevelsAfter A old new = AreLevelsAfter A old → AreLevelsAfter A new
