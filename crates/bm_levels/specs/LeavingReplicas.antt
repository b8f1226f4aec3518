-- Replicas that leave with their storages.
use Rattle.std.specs.Prelude.{◌≡◌, ◌==◌, ℕ, ◌+◌, ◌++◌, Bool, true, false, List}
use Rattle.bm_base.specs.declared.replica.ReplicaId.{ReplicaId}
use Rattle.bm_base.specs.Maps.Map.{get, len}
use Rattle.bm_arena.specs.Contents.{Contents, HasHead, list_of}
use Rattle.bm_arena.specs.HeldMaps.{replicas_of, blocks_of}

-- n replicas are gone, all of them from storages for which `leaves` is true
pub record IsLeaving (leaves : ℕ → Bool) (old new : Contents) (n : ℕ) : Type 0 where
  -- the blocks stay
  pub blocks : blocks_of new ≡ blocks_of old
  -- and the lists of other storages, and the replicas on them
  pub lists : (storage : ℕ) → leaves storage ≡ false → list_of new storage ≡ list_of old storage
  pub others : (q : ReplicaId) → leaves q.storage ≡ false → get (replicas_of new) q ≡ get (replicas_of old) q
  pub count : n + len (replicas_of new) ≡ len (replicas_of old)

-- n replicas left, all of one storage
abbrev pub IsLeavingStorage : ℕ → Contents → Contents → ℕ → Type 0
IsLeavingStorage storage old new n = IsLeaving (λ s. s == storage) old new n

-- the list of a storage begins with these slots
abbrev pub HasFirstSlots : Contents → ℕ → List ℕ → Type 0
HasFirstSlots a storage slots = (rest : List ℕ) × (list_of a storage ≡ slots ++ rest)

-- the storage's list, which began with these slots, keeps only the rest
abbrev pub DropsFirstSlots : ℕ → List ℕ → Contents → Contents → Type 0
DropsFirstSlots storage slots old new = (rest : List ℕ) → list_of old storage ≡ slots ++ rest → list_of new storage ≡ rest

-- no storage that passes has a head
abbrev pub HasNoHeads : (ℕ → Bool) → Contents → Type 0
HasNoHeads leaves a = (storage : ℕ) → leaves storage ≡ true → HasHead a storage → ⊥

-- no storage has a new head
abbrev pub MakesNoHead : Contents → Contents → Type 0
MakesNoHead old new = (storage : ℕ) → HasHead new storage → HasHead old storage
