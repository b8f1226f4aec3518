-- The storages of each node, in a hash table.
use Rattle.std.specs.Prelude.{◌≡◌, ℕ, nat_eq, List, []}
use Rattle.std.specs.Option.{option_map_or}
use Rattle.std.specs.Map.{lookup}
use Rattle.std.specs.declared.vec.Vec.{Vec}
use Rattle.fsck_cluster.specs.Rows.{storages_of}
use Rattle.fsck_cluster.specs.declared.rows.Row.{Row}

-- the storages of a node
abbrev pub grouped_at : {Z : Type 0} → List (ℕ × Vec ℕ Z) → ℕ → List ℕ
grouped_at es n = option_map_or (λ v. v.items) (lookup (nat_eq n) es) []

-- the hash table has the storages of each node, in their order
pub record AreGrouped {Z : Type 0} (rows : List Row) (es : List (ℕ × Vec ℕ Z)) : Type 0 where
  pub grouped : (n : ℕ) → grouped_at es n ≡ storages_of rows n
