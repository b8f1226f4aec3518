-- The storages, each with its node and its replicas.
use Rattle.std.specs.Prelude.{ℕ, ◌-◌, ◌==◌, Bool, false, List, [], ◌∷◌, ◌++◌, length, slice_get, slice_set, map, filter}
use Rattle.std.specs.List.{list_any}
use Rattle.std.specs.Option.{option_map_or}
use Rattle.fsck_cluster.specs.declared.rows.StoredReplica.{StoredReplica}
use Rattle.fsck_cluster.specs.declared.rows.Row.{Row}

-- a storage with this number and this node, without replicas
abbrev pub new_row : ℕ → ℕ → Row
new_row number node = record { number = number; node = node; held = [] }

-- whether the last replica of a storage is one of this block
abbrev pub ends_with : Row → ℕ → Bool
ends_with row id = option_map_or (λ h. h.id == id) (slice_get row.held (length row.held - 1)) false

-- adds a replica to the storage at an index
abbrev pub with_held_at : List Row → ℕ → StoredReplica → List Row
with_held_at rows at held =
    option_map_or (λ row. slice_set rows at (record row { held = row.held ++ held ∷ [] })) (slice_get rows at) rows

-- the storages of a node
abbrev pub storages_of : List Row → ℕ → List ℕ
storages_of rows node = map (λ row. row.number) (filter (λ row. row.node == node) rows)

-- whether a node has a storage
abbrev pub has_storage : List Row → ℕ → Bool
has_storage rows node = list_any (λ row. row.node == node) rows
