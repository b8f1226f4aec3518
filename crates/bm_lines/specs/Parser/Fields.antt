-- What the fields of a line's object hold.
use Rattle.std.specs.Prelude.{ℕ, ◌^◌, List, [], ◌∷◌, if◌then◌else◌, nat_lt, Option, Some, None, option_map, option_and_then}
use Rattle.serde_json.specs.Data.{Data, Items, no_items, item}
use Rattle.serde_json.specs.Find.{get, as_number, as_u64, as_array}
use Rattle.bm_base.specs.declared.replica.Stamp.{Stamp}
use Rattle.bm_base.specs.declared.event.Entry.{Entry}
use Rattle.bm_base.specs.declared.event.Remaining.{Remaining}

-- a whole number below 2^64
abbrev pub number_in : Data → Option ℕ
number_in d = option_and_then as_u64 (as_number d)

abbrev pub number_field : List ℕ → Data → Option ℕ
number_field name d = option_and_then number_in (get name d)

abbrev pub below_32 : ℕ → Option ℕ
below_32 n = if nat_lt n (2 ^ 32) then Some n else None

-- a whole number below 2^32
abbrev pub small_number : Data → Option ℕ
small_number d = option_and_then below_32 (number_in d)

abbrev pub small_field : List ℕ → Data → Option ℕ
small_field name d = option_and_then below_32 (number_field name d)

-- f of each; None if one of them has none
abbrev pub each : {A B : Type 0} → (A → Option B) → List A → Option (List B)
each f [] = Some []
each f (x ∷ xs) = option_and_then (λ y. option_map (λ ys. y ∷ ys) (each f xs)) (f x)

-- the items of an array as a list
abbrev pub listed : Items → List Data
listed no_items = []
listed (item d ds) = d ∷ listed ds

-- a list of what f reads of each item
abbrev pub list_field : {A : Type 0} → (Data → Option A) → List ℕ → Data → Option (List A)
list_field f name d = option_and_then (λ items. each f (listed items)) (option_and_then as_array (get name d))

-- a list of whole numbers below 2^32
abbrev pub small_list_field : List ℕ → Data → Option (List ℕ)
small_list_field name d = list_field small_number name d

abbrev pub stamp_from : Option ℕ → Option ℕ → Option Stamp
stamp_from (Some generation) (Some len) = Some (record { generation = generation; len = len })
stamp_from _ _ = None

abbrev pub entry_from : Option ℕ → Option ℕ → Option Stamp → Option Entry
entry_from (Some from) (Some to) (Some stamp) = Some (record { from = from; to = to; stamp = stamp })
entry_from _ _ _ = None

-- three numbers: a block, its generation and its length; or four: the first and the last block of a
-- run, their generation and their length
abbrev pub entry_among : List Data → Option Entry
entry_among (id ∷ generation ∷ len ∷ []) = entry_from (number_in id) (number_in id) (stamp_from (number_in generation) (number_in len))
entry_among (from ∷ to ∷ generation ∷ len ∷ []) = entry_from (number_in from) (number_in to) (stamp_from (number_in generation) (number_in len))
entry_among _ = None

unfoldable pub entry_in : Data → Option Entry
entry_in d = option_and_then (λ items. entry_among (listed items)) (as_array d)

-- a list of the entries of a report
abbrev pub entries_field : List ℕ → Data → Option (List Entry)
entries_field name d = list_field entry_in name d

abbrev pub remaining_from : Option ℕ → Option ℕ → Option Remaining
remaining_from (Some storage) (Some remaining) = Some (record { storage = storage; remaining = remaining })
remaining_from _ _ = None

-- two numbers: a storage, and the bytes remaining there
abbrev pub remaining_among : List Data → Option Remaining
remaining_among (storage ∷ remaining ∷ []) = remaining_from (small_number storage) (number_in remaining)
remaining_among _ = None

unfoldable pub remaining_in : Data → Option Remaining
remaining_in d = option_and_then (λ items. remaining_among (listed items)) (as_array d)

-- a list of the remaining bytes of storages
abbrev pub remaining_field : List ℕ → Data → Option (List Remaining)
remaining_field name d = list_field remaining_in name d
