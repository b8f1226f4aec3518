-- How the entries of the map represent the pending transfers.
use Rattle.std.specs.Prelude.{ℕ, ◌-◌, not, ◌==◌, List, [], ◌∷◌, length, map, filter, nat_eq, T}
use Rattle.std.specs.Option.{option_map_or}
use Rattle.std.specs.Ordering.{nat_cmp}
use Rattle.std.specs.FinMap.{is_sorted}
use Rattle.std.specs.Map.{lookup}
use Rattle.smallvec.specs.SmallVec.{SmallVec}
use Rattle.bm_base.specs.Words.{Map, empty, insert, keep, by_replica, replica_at, is_expired}

-- the targets of one block with the rounds of their commands
abbrev pub PendingTargets : Type 0
PendingTargets = SmallVec (ℕ × ℕ)

-- the transfers of one block replaced by these
unfoldable pub with_block : ℕ → List (ℕ × ℕ) → Map by_replica ℕ → Map by_replica ℕ
with_block b [] m = keep m (λ q _. not (q.block == b))
with_block b (t ∷ ts) m = insert (with_block b ts m) (replica_at b t.0) t.1

-- the transfers of all blocks
unfoldable pub map_of : List (ℕ × PendingTargets) → Map by_replica ℕ
map_of [] = empty
map_of (e ∷ es) = with_block e.0 e.1.items (map_of es)

-- the targets of a block
abbrev pub targets_at : List (ℕ × PendingTargets) → ℕ → List (ℕ × ℕ)
targets_at es b = option_map_or (λ (v : PendingTargets). v.items) (lookup (nat_eq b) es) []

-- the targets of a block whose transfers are expired as round r begins
abbrev pub expired_among : ℕ → ℕ → List (ℕ × ℕ) → List (ℕ × ℕ)
expired_among pend r ts = filter (λ t. is_expired pend r t.1) ts

-- the storages of the transfers that are not expired
abbrev pub remaining_storages : ℕ → ℕ → List (ℕ × ℕ) → List ℕ
remaining_storages pend r ts = map (λ t. t.0) (filter (λ t. not (is_expired pend r t.1)) ts)

abbrev pub capacity_left : PendingTargets → ℕ
capacity_left v = v.capacity - length v.items

-- how many more transfers of a block need no memory
abbrev pub capacity_at : List (ℕ × PendingTargets) → ℕ → ℕ
capacity_at es b = option_map_or capacity_left (lookup (nat_eq b) es) 0

-- each block with how many more of its transfers need no memory
abbrev pub capacities_of : List (ℕ × PendingTargets) → List (ℕ × ℕ)
capacities_of es = map (λ e. (e.0, capacity_left e.1)) es

-- the targets of each block are ascending
pub record IsPending (es : List (ℕ × PendingTargets)) : Type 0 where
  pub ascending : (b : ℕ) → T (is_sorted nat_cmp (targets_at es b))
