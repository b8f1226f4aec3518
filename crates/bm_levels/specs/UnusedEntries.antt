-- Unused entries have neither a block nor a replica. A number has one only while a prepared event
-- may need it.
use Rattle.std.specs.Prelude.{◌≡◌, ◌≢◌, ℕ, Bool, false, List, [], None, Some, IsSome, IsTrue}
use Rattle.bm_base.specs.Words.{get, replica_at}
use Rattle.bm_maps.specs.SlotLists.{IsMember}
use Rattle.bm_arena.specs.Contents.{Contents, block_at, slot_of}
use Rattle.bm_arena.specs.HeldMaps.{replicas_at, replicas_of, blocks_of}

-- the number has an entry, and neither a known block nor a replica
pub record IsUnused (a : Contents) (b : ℕ) : Type 0 where
  pub entry : IsSome (slot_of a b)
  pub unknown : get (blocks_of a) b ≡ None
  pub empty : (s : ℕ) → get (replicas_of a) (replica_at b s) ≡ None

-- the number has no entry, or one with a replica
abbrev pub HasNoEmptyEntry : Contents → ℕ → Type 0
HasNoEmptyEntry a b = (slot : ℕ) → slot_of a b ≡ Some slot → replicas_at a slot ≢ []

-- no number has an unused entry
abbrev pub HasNoUnused : Contents → Type 0
HasNoUnused a = (b : ℕ) → IsUnused a b → ⊥

-- none of these numbers has an unused entry
abbrev pub HasNoUnusedOf : (ℕ → Bool) → Contents → Type 0
HasNoUnusedOf these a = (b : ℕ) → IsTrue (these b) → IsUnused a b → ⊥

-- none of the numbers that had their entries at these slots has an unused entry
abbrev pub HasNoUnusedAt : List ℕ → Contents → Contents → Type 0
HasNoUnusedAt slots old new = (b slot : ℕ) → IsMember slot slots → slot_of old b ≡ Some slot → IsUnused new b → ⊥

-- no number has a new unused entry
abbrev pub MakesNoUnused : Contents → Contents → Type 0
MakesNoUnused old new = (b : ℕ) → IsUnused new b → IsUnused old b

-- no number but these has a new unused entry
abbrev pub MakesUnusedOnly : (ℕ → Bool) → Contents → Contents → Type 0
MakesUnusedOnly these old new = (b : ℕ) → these b ≡ false → IsUnused new b → IsUnused old b

-- a number that has an entry has the one that it had
abbrev pub KeepsSlots : Contents → Contents → Type 0
KeepsSlots old new = (b : ℕ) → IsSome (slot_of new b) → slot_of new b ≡ slot_of old b

-- the blocks at all slots but these are as before
abbrev pub KeepsBlocksOutside : List ℕ → Contents → Contents → Type 0
KeepsBlocksOutside slots old new = (slot : ℕ) → (IsMember slot slots → ⊥) → block_at new slot ≡ block_at old slot

-- as `KeepsBlocksOutside`, of all slots but the delimiter
abbrev pub IsSameButDelimiter : List ℕ → Contents → Contents → Type 0
IsSameButDelimiter slots old new = (slot : ℕ) → slot ≢ old.delimiter → (IsMember slot slots → ⊥) → block_at new slot ≡ block_at old slot
