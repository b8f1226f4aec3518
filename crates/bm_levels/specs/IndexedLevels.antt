-- The stored status of blocks, by slot.
use Rattle.std.specs.Prelude.{◌≡◌, ◌↔◌, ℕ, ◌+◌, ◌<◌, ◌≤◌, max, Bool, true, false, List, ◌++◌, length, map, reverse, Option, Some, None, slice_get, slice_index_or}
use Rattle.bm_base.specs.declared.replica.Level.{Level}
use Rattle.bm_base.specs.declared.replica.Level.TheVariants.{Highest, VeryUnderReplicated, UnderReplicated, BadlyDistributed, NoUsableReplica}
use Rattle.bm_maps.specs.SlotLists.{IsMember}
use Rattle.bm_base.specs.Words.{Cluster, rack_of, is_draining, is_multi_rack}
use Rattle.bm_queues.specs.Levels.{Levels, level_at, slots_of}
use Rattle.bm_queues.specs.Members.{Members}
use Rattle.bm_queues.specs.Walks.{slots_from, IsOn, IsPast}
use Rattle.bm_arena.specs.Triplets.{Block}
use Rattle.bm_arena.specs.Contents.{Contents, block_at}
use Rattle.bm_levels.specs.declared.classification.BlockStatus.{BlockStatus}
use Rattle.bm_levels.specs.Status.{level_by, is_settled_at}

-- the levels of the slots, and the slots that a round has to scan
pub record IndexedLevels : Type 0 where
  pub levels : Levels
  pub unsettled : Members

-- copies of a block are wanted at each level but the one without a usable replica
abbrev pub needs_copies : Option Level → Bool
needs_copies None = false
needs_copies (Some NoUsableReplica) = false
needs_copies (Some _) = true

-- the slots at a level, in the order of the array that has them
abbrev pub slots_at : IndexedLevels → Level → List ℕ
slots_at K l = reverse (slots_of K.levels l)

-- the slots at a level at which copies are wanted, the most urgent level first
abbrev pub slots_needing_copies : IndexedLevels → List ℕ
slots_needing_copies K = slots_at K Highest ++ (slots_at K VeryUnderReplicated ++ (slots_at K UnderReplicated ++ slots_at K BadlyDistributed))

abbrev pub level_of_slot : IndexedLevels → ℕ → Option Level
level_of_slot K slot = level_at K.levels slot

abbrev pub IsUnsettled : IndexedLevels → ℕ → Type 0
IsUnsettled K slot = IsMember slot K.unsettled.slots

-- there is capacity for the slots below this one
abbrev pub HasCapacityFor : IndexedLevels → ℕ → Type 0
HasCapacityFor K bound = (bound ≤ length K.levels.levels) × (bound ≤ K.unsettled.capacity)

-- there is capacity for a slot, and for each of these
abbrev pub HasCapacityAt : IndexedLevels → ℕ → Type 0
HasCapacityAt K slot = (bound : ℕ) × (slot < bound) × HasCapacityFor K bound

abbrev pub HasCapacityForEach : IndexedLevels → List ℕ → Type 0
HasCapacityForEach K slots = (slot : ℕ) → IsMember slot slots → HasCapacityFor K (slot + 1)

-- a change keeps the capacity
abbrev pub KeepsCapacity : IndexedLevels → IndexedLevels → Type 0
KeepsCapacity old new = (bound : ℕ) → HasCapacityFor old bound → HasCapacityFor new bound

-- a change reserves at most this many slots, and none if there was capacity for them
abbrev pub GrowsWithin : ℕ → IndexedLevels → IndexedLevels → Type 0
GrowsWithin most old new = (length new.levels.levels ≤ max (length old.levels.levels) most) × (new.unsettled.capacity ≤ max old.unsettled.capacity most)

-- these are exactly the slots at a level
abbrev pub AreSlotsAt : IndexedLevels → Level → List ℕ → Type 0
AreSlotsAt K l slots = (slot : ℕ) → IsMember slot slots ↔ (level_of_slot K slot ≡ Some l)

-- these are exactly the slots at a level at which copies are wanted
abbrev pub NeedCopies : IndexedLevels → List ℕ → Type 0
NeedCopies K slots = (slot : ℕ) → IsMember slot slots ↔ (needs_copies (level_of_slot K slot) ≡ true)

-- a slot has the status of its block
pub record IsClassified (rack : ℕ → Option ℕ) (draining : ℕ → Bool) (multi : Bool) (o : Option Block) (K : IndexedLevels) (slot : ℕ) : Type 0 where
  pub level : level_of_slot K slot ≡ level_by rack draining multi o
  pub unsettled : IsUnsettled K slot ↔ (is_settled_at o ≡ false)

-- as `IsClassified`, in a cluster, and of each of these slots
abbrev pub IsClassifiedIn : Cluster → Option Block → IndexedLevels → ℕ → Type 0
IsClassifiedIn C o K slot = IsClassified (rack_of C) (is_draining C) (is_multi_rack C) o K slot

abbrev pub AreClassifiedIn : Cluster → Contents → List ℕ → IndexedLevels → Type 0
AreClassifiedIn C a slots K = (slot : ℕ) → IsMember slot slots → IsClassifiedIn C (block_at a slot) K slot

-- the status of a block
pub record IsStatusOf (rack : ℕ → Option ℕ) (draining : ℕ → Bool) (multi : Bool) (o : Option Block) (j : BlockStatus) : Type 0 where
  pub level : j.level ≡ level_by rack draining multi o
  pub settled : j.is_settled ≡ is_settled_at o

-- a slot has this status
pub record HasStatus (K : IndexedLevels) (slot : ℕ) (j : BlockStatus) : Type 0 where
  pub level : level_of_slot K slot ≡ j.level
  pub unsettled : IsUnsettled K slot ↔ (j.is_settled ≡ false)

-- each of these slots has the status at its index
abbrev pub HaveStatuses : IndexedLevels → List ℕ → List BlockStatus → Type 0
HaveStatuses K slots js = (i slot : ℕ) (default : BlockStatus) → slice_get slots i ≡ Some slot → HasStatus K slot (slice_index_or js i default)

-- a slot has the same status as before
pub record IsSameAt (old new : IndexedLevels) (slot : ℕ) : Type 0 where
  pub level : level_of_slot new slot ≡ level_of_slot old slot
  pub unsettled : IsUnsettled new slot ↔ IsUnsettled old slot

-- every slot but these has the same status as before
abbrev pub IsSameOutside : List ℕ → IndexedLevels → IndexedLevels → Type 0
IsSameOutside slots old new = (slot : ℕ) → (IsMember slot slots → ⊥) → IsSameAt old new slot

-- the slots of all numbers that have an entry
abbrev pub indexed_slots : Contents → List ℕ
indexed_slots a = map (λ (p : ℕ × ℕ). p.1) a.ids

-- if an iteration over a list has passed a slot, a change keeps its position and the remaining
-- slots
pub record KeepsAhead (slot : ℕ) (old new : List ℕ) : Type 0 where
  pub rest : (at : Option ℕ) → IsPast slot at old → slots_from new at ≡ slots_from old at
  pub on : (at : Option ℕ) → IsPast slot at old → IsOn at old → IsOn at new
