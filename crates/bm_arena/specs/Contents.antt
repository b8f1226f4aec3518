-- What a contract sees of an arena, the effect of its calls, and its invariant. Source: Hadoop 2's
-- BlockInfo (triplets), BlocksMap, and the delimiter by which BlockManager compares a full report.
use Rattle.std.specs.Prelude.{◌≡◌, ◌↔◌, ℕ, ◌+◌, ◌^◌, ◌-◌, ◌==◌, ◌<◌, ◌≤◌, ◌≢◌, max, List, [], ◌∷◌, ◌++◌, length, map, nat_eq, nat_lt, Option, Some, None, IsSome, IsSomeAnd, if◌then◌else◌, slice_index_or, slice_set, false}
use Rattle.std.specs.Option.{option_map, option_and_then, option_map_or, unwrap_or}
use Rattle.std.specs.Map.{lookup, set_value, keys_of}
use Rattle.std.specs.List.{IsDistinct}
use Rattle.indexmap.specs.IndexMap.{swap_remove_entry}
use Rattle.bm_base.specs.declared.replica.Marks.{Marks}
use Rattle.bm_base.specs.declared.replica.Tag.TheVariants.{Good}
use Rattle.bm_base.specs.declared.replica.BlockInfo.{BlockInfo}
use Rattle.bm_arena.specs.declared.arena.TheConstants.{INLINE_TRIPLETS}
use Rattle.bm_arena.specs.Triplets.{Block, change_block, fill_first}
use Rattle.bm_maps.specs.SlotLists.{IsMember, Distinct, without}

-- The block, if there is one, at each slot; each block's number with its slot; each storage with a
-- head, and the slots of its list in order. `delimiter` is the slot that marks a position in a
-- list, `steps` the number of list operations, `bound` one above the greatest slot that was ever
-- held.
pub record Contents : Type 0 where
  pub blocks : List (Option Block)
  pub ids : List (ℕ × ℕ)
  pub lists : List (ℕ × List ℕ)
  pub delimiter : ℕ
  pub steps : ℕ
  pub bound : ℕ

abbrev pub block_at : Contents → ℕ → Option Block
block_at a slot = slice_index_or a.blocks slot None

-- the storage has a head
abbrev pub HasHead : Contents → ℕ → Type 0
HasHead a storage = IsSome (lookup (nat_eq storage) a.lists)

-- the slots of a storage's list, from its head on; empty if it has no head
abbrev pub list_of : Contents → ℕ → List ℕ
list_of a storage = unwrap_or (lookup (nat_eq storage) a.lists) []

-- the marks of the replica of a storage, the first such in the list
abbrev pub find_marks : List (ℕ × Marks) → ℕ → Option Marks
find_marks [] storage = None
find_marks (r ∷ rs) storage = if r.0 == storage then Some r.1 else find_marks rs storage

abbrev pub marks_at : Contents → ℕ → ℕ → Option Marks
marks_at a slot storage = option_and_then (λ (b : Block). find_marks b.replicas storage) (block_at a slot)

-- one more replica of the block fits with no allocation
abbrev pub HasCapacity : Contents → ℕ → Type 0
HasCapacity a slot = IsSomeAnd (block_at a slot) (λ (b : Block). length b.replicas < b.capacity)

-- a count that stays at its greatest value
abbrev pub saturating_next : ℕ → ℕ
saturating_next n = if nat_lt n (2 ^ 64 - 1) then n + 1 else n

abbrev pub with_replica : ℕ → Marks → Block → Block
with_replica storage marks b = record b { replicas = b.replicas ++ (storage, marks) ∷ [] }

abbrev pub without_replica : ℕ → Block → Block
without_replica storage b = record b { replicas = fill_first (λ r. r.0 == storage) b.replicas }

-- the lists, with that of one storage replaced
abbrev pub with_list : Contents → ℕ → List ℕ → List (ℕ × List ℕ)
with_list a storage xs = set_value (nat_eq storage) a.lists xs

-- the arena after a replica was linked at the head of its storage's list
abbrev pub linked_front : Contents → ℕ → ℕ → Marks → Contents
linked_front a slot storage marks = record a {
  blocks = change_block (with_replica storage marks) a.blocks slot;
  lists = with_list a storage (slot ∷ list_of a storage);
  steps = saturating_next a.steps;
}

-- the arena after a replica was taken out
abbrev pub unlinked : Contents → ℕ → ℕ → Contents
unlinked a slot storage = record a {
  blocks = change_block (without_replica storage) a.blocks slot;
  lists = with_list a storage (without slot (list_of a storage));
  steps = saturating_next a.steps;
}

-- the arena after a slot was moved to the head of its list
abbrev pub moved_front : Contents → ℕ → ℕ → Contents
moved_front a slot storage = record a {
  lists = with_list a storage (slot ∷ without slot (list_of a storage));
  steps = saturating_next a.steps;
}

abbrev pub with_entry_capacity : ℕ → Block → Block
with_entry_capacity capacity b = record b { capacity = capacity }

abbrev pub with_info : Option BlockInfo → Block → Block
with_info info b = record b { info = info }

-- the replicas, with the marks of the first one of a storage replaced
abbrev pub change_marks : List (ℕ × Marks) → ℕ → Marks → List (ℕ × Marks)
change_marks [] storage marks = []
change_marks (r ∷ rs) storage marks = if r.0 == storage then (r.0, marks) ∷ rs else r ∷ change_marks rs storage marks

abbrev pub with_marks : ℕ → Marks → Block → Block
with_marks storage marks b = record b { replicas = change_marks b.replicas storage marks }

-- the slot of a number
abbrev pub slot_of : Contents → ℕ → Option ℕ
slot_of a id = lookup (nat_eq id) a.ids

-- the slot is that of a number
abbrev pub IsEntry : Contents → ℕ → Type 0
IsEntry a slot = (id : ℕ) × (slot_of a id ≡ Some slot)

-- an entry with no block and no replica: it has its inline capacity
abbrev pub empty_block : ℕ → Block
empty_block id = record { id = id; info = None; replicas = []; capacity = INLINE_TRIPLETS }

-- a number that was not there has an empty entry at a slot that was vacant
pub record IsAdded (old new : Contents) (id slot : ℕ) : Type 0 where
  pub vacant : block_at old slot ≡ None
  pub entry : block_at new slot ≡ Some (empty_block id)
  pub marked : slot ≢ old.delimiter
  pub others : (other : ℕ) → other ≢ slot → block_at new other ≡ block_at old other
  pub ids : new.ids ≡ old.ids ++ (id, slot) ∷ []
  pub found : (other : ℕ) → slot_of new other ≡ (if other == id then Some slot else slot_of old other)
  pub lists : new.lists ≡ old.lists
  pub steps : new.steps ≡ old.steps
  pub delimiter : new.delimiter ≡ old.delimiter
  pub bound : new.bound ≡ max old.bound (slot + 1)

-- the slot before x, where `before` is before the first
abbrev pub before_in : Option ℕ → ℕ → List ℕ → Option ℕ
before_in before x [] = None
before_in before x (y ∷ ys) = if y == x then before else before_in (Some y) x ys

abbrev pub slot_before : ℕ → List ℕ → Option ℕ
slot_before x xs = before_in None x xs

-- how many replicas fit at a slot with no allocation
abbrev pub entry_capacity : Contents → ℕ → ℕ
entry_capacity a slot = option_map_or (λ (b : Block). b.capacity) (block_at a slot) 0

-- the marks of the delimiter, which mean nothing
abbrev pub no_marks : Marks
no_marks = record { tag = Good; excess = false; ordered = false }

-- only capacity changed: more storages may have a head, with no slot in their lists, and the
-- delimiter's entry may have more capacity
pub record IsReserved (old new : Contents) : Type 0 where
  pub blocks : (slot : ℕ) → slot ≢ old.delimiter → block_at new slot ≡ block_at old slot
  pub marker : block_at new old.delimiter ≡ option_map (with_entry_capacity (entry_capacity new old.delimiter)) (block_at old old.delimiter)
  pub capacity : entry_capacity old old.delimiter ≤ entry_capacity new old.delimiter
  pub marks : (slot storage : ℕ) → marks_at new slot storage ≡ marks_at old slot storage
  pub lists : (storage : ℕ) → list_of new storage ≡ list_of old storage
  pub heads : (storage : ℕ) → HasHead old storage → HasHead new storage
  pub ids : new.ids ≡ old.ids
  pub delimiter : new.delimiter ≡ old.delimiter
  pub steps : new.steps ≡ old.steps
  pub bound : new.bound ≡ old.bound

-- the arena after the entry of a number was dropped: the last number takes its index
abbrev pub dropped : Contents → ℕ → ℕ → Contents
dropped a slot id = record a { blocks = slice_set a.blocks slot None; ids = swap_remove_entry (nat_eq id) a.ids }

-- the invariant of an arena between calls
pub record IsLawful (a : Contents) : Type 0 where
  -- a list visits no slot twice
  pub distinct : (storage : ℕ) → Distinct (list_of a storage)
  -- and visits exactly the slots that have a replica on its storage; the delimiter's slot is one
  -- more member while it is in the list
  pub exact : (slot storage : ℕ) → IsMember slot (list_of a storage) ↔ IsSome (marks_at a slot storage)
  -- a block has at most one replica on a storage
  pub once : (slot : ℕ) (b : Block) → block_at a slot ≡ Some b → Distinct (map (λ (r : ℕ × Marks). r.0) b.replicas)
  -- a number leads to the slot of its entry, which is not the delimiter's
  pub found : (id slot : ℕ) → slot_of a id ≡ Some slot → (slot ≢ a.delimiter) × (b : Block) × (block_at a slot ≡ Some b) × (b.id ≡ id)
  -- each slot that is held, but for the delimiter's, is that of its entry's number
  pub known : (slot : ℕ) (b : Block) → block_at a slot ≡ Some b → slot ≢ a.delimiter → slot_of a b.id ≡ Some slot
  -- no number is listed twice
  pub each : IsDistinct nat_eq (keys_of a.ids)
  -- the delimiter's slot is held
  pub marker : IsSome (block_at a a.delimiter)
  -- each slot that is held is below the bound
  pub bounded : (slot : ℕ) (b : Block) → block_at a slot ≡ Some b → slot < a.bound

-- the information on a block, without its replicas
abbrev pub known_of : Option Block → Option (ℕ × Option BlockInfo)
known_of o = option_map (λ (b : Block). (b.id, b.info)) o

-- What a list operation keeps: all lists but the storage's, and all blocks but the slot's. Of that
-- block it keeps the number, the information, the replicas on other storages and the capacity. It
-- counts one more step.
pub record KeepsOthers (old new : Contents) (slot storage : ℕ) : Type 0 where
  pub lists : (other : ℕ) → other ≢ storage → list_of new other ≡ list_of old other
  pub heads : (other : ℕ) → HasHead old other → HasHead new other
  pub blocks : (other : ℕ) → other ≢ slot → block_at new other ≡ block_at old other
  pub marks : (other : ℕ) → other ≢ storage → marks_at new slot other ≡ marks_at old slot other
  pub known : known_of (block_at new slot) ≡ known_of (block_at old slot)
  pub ids : new.ids ≡ old.ids
  pub delimiter : new.delimiter ≡ old.delimiter
  pub steps : new.steps ≡ saturating_next old.steps
  pub bound : new.bound ≡ old.bound
  pub capacity : entry_capacity new slot ≡ entry_capacity old slot

-- What a change of the block in a slot that moves it in no list keeps: all lists, all other blocks,
-- all capacities, and all numbers with their slots.
pub record KeepsAllBut (slot : ℕ) (old new : Contents) : Type 0 where
  pub lists : new.lists ≡ old.lists
  pub blocks : (other : ℕ) → other ≢ slot → block_at new other ≡ block_at old other
  pub capacity : (other : ℕ) → entry_capacity new other ≡ entry_capacity old other
  pub ids : new.ids ≡ old.ids
  pub delimiter : new.delimiter ≡ old.delimiter
  pub steps : new.steps ≡ old.steps
  pub bound : new.bound ≡ old.bound

-- All entries stay, whatever replicas come, go or get other marks. Each number keeps its slot, and
-- each slot the information on its block and its capacity. A storage with a head keeps one.
pub record KeepsEntries (old new : Contents) : Type 0 where
  pub ids : new.ids ≡ old.ids
  pub known : (slot : ℕ) → known_of (block_at new slot) ≡ known_of (block_at old slot)
  pub capacity : (slot : ℕ) → entry_capacity new slot ≡ entry_capacity old slot
  pub heads : (storage : ℕ) → HasHead old storage → HasHead new storage
  pub delimiter : new.delimiter ≡ old.delimiter
  pub bound : new.bound ≡ old.bound
