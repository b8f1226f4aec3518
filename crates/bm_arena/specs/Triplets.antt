-- Triplets in a block's vector, found by their storage.
use Rattle.std.specs.Prelude.{ℕ, ◌==◌, List, map, [], ◌∷◌, Option, Some, None, is_some, if◌then◌else◌, Bool}
use Rattle.std.specs.Option.{option_map, option_and_then, option_map_or}
use Rattle.std.specs.Prelude.{slice_set, slice_index_or, take, length, ◌++◌}
use Rattle.slab.specs.Slab.{Slab, get}
use Rattle.bm_base.specs.declared.replica.Marks.{Marks}
use Rattle.bm_base.specs.declared.replica.BlockInfo.{BlockInfo}
use Rattle.bm_arena.specs.declared.arena.Triplet.{Triplet}
use Rattle.bm_arena.specs.declared.arena.BlockEntry.{BlockEntry}

-- the view of a block: its number, its information, each replica's storage and marks, and its
-- capacity
pub record Block : Type 0 where
  pub id : ℕ
  pub info : Option BlockInfo
  pub replicas : List (ℕ × Marks)
  pub capacity : ℕ

-- the first triplet of a storage
abbrev pub find_triplet : List Triplet → ℕ → Option Triplet
find_triplet [] storage = None
find_triplet (t ∷ ts) storage = if t.storage == storage then Some t else find_triplet ts storage

-- the triplets, with the first one of a storage changed
abbrev pub change_triplet : (Triplet → Triplet) → List Triplet → ℕ → List Triplet
change_triplet f [] storage = []
change_triplet f (t ∷ ts) storage = if t.storage == storage then f t ∷ ts else t ∷ change_triplet f ts storage

abbrev pub with_previous : Option ℕ → Triplet → Triplet
with_previous previous t = record t { previous = previous }

abbrev pub with_next : Option ℕ → Triplet → Triplet
with_next next t = record t { next = next }

-- the first slot of a list, once the slot of a triplet has left it
abbrev pub first_after : Option ℕ → Triplet → Option ℕ
first_after first t = if is_some t.previous then first else t.next

-- a triplet linked as the head of its list
abbrev pub as_first : Option ℕ → Triplet → Triplet
as_first first t = record t { previous = None; next = first_after first t }

abbrev pub with_triplet_marks : Marks → Triplet → Triplet
with_triplet_marks marks t = record t { marks = marks }

-- the triplet of a storage in the block at a slot
abbrev pub triplet_at : Slab BlockEntry → ℕ → ℕ → Option Triplet
triplet_at slots x storage = option_and_then (λ (e : BlockEntry). find_triplet e.triplets.items storage) (get slots x)

-- an entry with other triplets in the same capacity
abbrev pub with_triplets : BlockEntry → List Triplet → BlockEntry
with_triplets e ts = record e { triplets = record e.triplets { items = ts } }

-- an entry with the same triplets in another capacity
abbrev pub with_capacity : ℕ → BlockEntry → BlockEntry
with_capacity capacity e = record e { triplets = record e.triplets { capacity = capacity } }

-- how many triplets fit at a slot with no allocation
abbrev pub capacity_at : Slab BlockEntry → ℕ → ℕ
capacity_at slots x = option_map_or (λ (e : BlockEntry). e.triplets.capacity) (get slots x) 0

-- the blocks, with the one at a slot changed
abbrev pub change_block : (Block → Block) → List (Option Block) → ℕ → List (Option Block)
change_block h blocks x = slice_set blocks x (option_map h (slice_index_or blocks x None))

-- the slab, with the block at a slot changed
abbrev pub at_slot : (BlockEntry → BlockEntry) → Slab BlockEntry → ℕ → Slab BlockEntry
at_slot g slots x = record slots { slots = slice_set slots.slots x (option_map g (get slots x)) }

-- the slab, with one triplet changed
abbrev pub change_at : (Triplet → Triplet) → Slab BlockEntry → ℕ → ℕ → Slab BlockEntry
change_at f slots x storage = at_slot (λ (e : BlockEntry). with_triplets e (change_triplet f e.triplets.items storage)) slots x

-- the slab, with one triplet more
abbrev pub added : Slab BlockEntry → ℕ → Triplet → Slab BlockEntry
added slots x t = at_slot (λ (e : BlockEntry). with_triplets e (e.triplets.items ++ t ∷ [])) slots x

-- the list, with its last element in front
abbrev pub last_to_front : {X : Type 0} → List X → List X
last_to_front [] = []
last_to_front (x ∷ xs) = slice_index_or (x ∷ xs) (length xs) x ∷ take (length xs) (x ∷ xs)

-- the list, with its last element at the index of the first that passes the test
abbrev pub fill_first : {X : Type 0} → (X → Bool) → List X → List X
fill_first p [] = []
fill_first p (x ∷ xs) = if p x then last_to_front xs else x ∷ fill_first p xs

abbrev pub is_of : ℕ → Triplet → Bool
is_of storage t = t.storage == storage

-- the slab without a storage's triplet: the block's last triplet takes its index
abbrev pub removed : Slab BlockEntry → ℕ → ℕ → Slab BlockEntry
removed slots x storage = at_slot (λ (e : BlockEntry). with_triplets e (fill_first (is_of storage) e.triplets.items)) slots x

-- the links of one storage
abbrev pub links_of : Slab BlockEntry → ℕ → ℕ → Option Triplet
links_of slots storage x = triplet_at slots x storage

-- the view of a replica: its storage and its marks
abbrev pub triplet_view : Triplet → ℕ × Marks
triplet_view t = (t.storage, t.marks)

-- the storages of triplets, as seen
abbrev pub storages_in : List Triplet → List ℕ
storages_in ts = map (λ r. r.0) (map triplet_view ts)

-- the view of a block's entry
abbrev pub entry_view : BlockEntry → Block
entry_view e = record { id = e.id; info = e.info; replicas = map triplet_view e.triplets.items; capacity = e.triplets.capacity }

abbrev pub slot_views : Slab BlockEntry → List (Option Block)
slot_views s = map (option_map entry_view) s.slots

-- the slab after a neighbour's link was written, if there is a neighbour
abbrev pub previous_set : Slab BlockEntry → Option ℕ → ℕ → Option ℕ → Slab BlockEntry
previous_set slots None storage previous = slots
previous_set slots (Some y) storage previous = change_at (with_previous previous) slots y storage

abbrev pub next_set : Slab BlockEntry → Option ℕ → ℕ → Option ℕ → Slab BlockEntry
next_set slots None storage next = slots
next_set slots (Some y) storage next = change_at (with_next next) slots y storage

-- the slab after the neighbours of a triplet were linked to each other
abbrev pub detached : Slab BlockEntry → Triplet → ℕ → Slab BlockEntry
detached slots t storage = previous_set (next_set slots t.previous storage t.next) t.next storage t.previous
