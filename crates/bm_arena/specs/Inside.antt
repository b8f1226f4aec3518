-- How an arena's fields represent what a contract sees of it.
use Rattle.std.specs.Prelude.{◌≡◌, ◌≢◌, ◌<◌, ◌≤◌, ℕ, List, map, length, nat_eq, Option, Some, None, slice_index_or}
use Rattle.std.specs.Map.{lookup, keys_of}
use Rattle.std.specs.List.{IsDistinct}
use Rattle.slab.specs.Slab.{Slab, get}
use Rattle.bm_arena.specs.declared.arena.BlockEntry.{BlockEntry}
use Rattle.bm_arena.specs.declared.arena.Triplet.{Triplet}
use Rattle.bm_maps.specs.SlotLinks.{end_of_links}
use Rattle.bm_arena.specs.Triplets.{Block, links_of, slot_views, triplet_at}
use Rattle.bm_maps.specs.SlotLists.{IsMember, Distinct}
use Rattle.bm_arena.specs.Lists.{walk, IsList}

-- the slots met from `first` on by the next links of a storage
abbrev pub list_from : Slab BlockEntry → ℕ → Option ℕ → List ℕ
list_from slots storage first = walk (links_of slots storage) (length slots.slots) first

-- each storage with the list that begins at its head
abbrev pub lists_from : Slab BlockEntry → List (ℕ × Option ℕ) → List (ℕ × List ℕ)
lists_from slots heads = map (λ h. (h.0, list_from slots h.0 h.1)) heads

-- the storages of a block's replicas
abbrev pub storages_of : Block → List ℕ
storages_of b = map (λ r. r.0) b.replicas

-- The links of each storage with a head are a lawful list. Each triplet's slot is in the list of
-- its storage, and a block has one triplet of a storage.
pub record IsSound (slots : Slab BlockEntry) (heads : List (ℕ × Option ℕ)) : Type 0 where
  pub lists : (storage : ℕ) (first : Option ℕ) → lookup (nat_eq storage) heads ≡ Some first → IsList (links_of slots storage) first (list_from slots storage first)
  pub complete : (slot storage : ℕ) (t : Triplet) → triplet_at slots slot storage ≡ Some t → (first : Option ℕ) × (lookup (nat_eq storage) heads ≡ Some first) × IsMember slot (list_from slots storage first)
  pub once : (slot : ℕ) (b : Block) → slice_index_or (slot_views slots) slot None ≡ Some b → Distinct (storages_of b)

-- the invariant of the entries of an arena with this many heads
pub record AreIds (blocks : List (Option Block)) (ids : List (ℕ × ℕ)) (delimiter heads : ℕ) : Type 0 where
  -- the index finds a block by its number
  pub there : (id slot : ℕ) → lookup (nat_eq id) ids ≡ Some slot → (slot ≢ delimiter) × (b : Block) × (slice_index_or blocks slot None ≡ Some b) × (b.id ≡ id)
  -- the index has each block but the delimiter
  pub known : (slot : ℕ) (b : Block) → slice_index_or blocks slot None ≡ Some b → slot ≢ delimiter → lookup (nat_eq b.id) ids ≡ Some slot
  -- no number is listed twice
  pub each : IsDistinct nat_eq (keys_of ids)
  -- the delimiter has capacity for a triplet of each head
  pub marker : (b : Block) × (slice_index_or blocks delimiter None ≡ Some b) × (heads ≤ b.capacity)
  -- a link can name each slot that is held
  pub small : (slot : ℕ) (b : Block) → slice_index_or blocks slot None ≡ Some b → slot < end_of_links

-- no number that has a slot is greater
abbrev pub AreAtMost : List (ℕ × ℕ) → ℕ → Type 0
AreAtMost ids greatest = (id slot : ℕ) → lookup (nat_eq id) ids ≡ Some slot → id ≤ greatest

-- the invariant of an arena's fields
pub record IsArena (slots : Slab BlockEntry) (ids : List (ℕ × ℕ)) (heads : List (ℕ × Option ℕ)) (delimiter : ℕ) : Type 0 where
  pub sound : IsSound slots heads
  pub unique : IsDistinct nat_eq (keys_of heads)
  pub numbers : AreIds (slot_views slots) ids delimiter (length heads)

-- each slot that is held is below the bound
abbrev pub AllBelow : Slab BlockEntry → ℕ → Type 0
AllBelow slots bound = (slot : ℕ) (e : BlockEntry) → get slots slot ≡ Some e → slot < bound

-- the invariant of an arena's fields, with a bound of the slots
pub record IsBoundedArena (slots : Slab BlockEntry) (ids : List (ℕ × ℕ)) (heads : List (ℕ × Option ℕ)) (delimiter bound : ℕ) : Type 0 where
  pub arena : IsArena slots ids heads delimiter
  pub bounded : AllBelow slots bound
