-- Where a block is held, as far as the class of a target depends on it.
use Rattle.std.specs.Prelude.{ℕ, Bool, true, false, if◌then◌else◌, ◌==◌, ◌||◌, List, [], ◌∷◌, Option, Some, None}
use Rattle.std.specs.Option.{option_map_or}
use Rattle.bm_base.specs.Words.{Cluster, rack_of}
use Rattle.bm_place.specs.declared.up_to_two.UpToTwo.{UpToTwo}
use Rattle.bm_place.specs.declared.up_to_two.UpToTwo.TheVariants.{Nothing, One, Two}
use Rattle.bm_place.specs.declared.replica_spread.ReplicaSpread.{ReplicaSpread}
pub use Rattle.bm_place.specs.UpToTwo.{with_number, are_two, is_one}

-- the numbers so far with a rack, if it is known
abbrev pub with_rack : UpToTwo → Option ℕ → UpToTwo
with_rack seen None = seen
with_rack seen (Some r) = with_number seen r

-- with one storage more
abbrev pub with_storage : Cluster → ReplicaSpread → ℕ → ReplicaSpread
with_storage C w s = record { racks = with_rack w.racks (rack_of C s); storages = with_number w.storages s }

-- with each of these storages
abbrev pub with_storages : Cluster → ReplicaSpread → List ℕ → ReplicaSpread
with_storages C w [] = w
with_storages C w (s ∷ ss) = with_storages C (with_storage C w s) ss

-- the spread of no storage
abbrev pub no_spread : ReplicaSpread
no_spread = record { racks = Nothing; storages = Nothing }

-- the spread of these storages
unfoldable pub replica_spread_of : Cluster → List ℕ → ReplicaSpread
replica_spread_of C held = with_storages C no_spread held

-- whether a rack is known and is r
abbrev pub is_rack : ℕ → Option ℕ → Bool
is_rack r rack = option_map_or (λ q. q == r) rack false

-- the class of a target on a rack, by the racks that hold the block, and whether two storages do
abbrev pub class_on : UpToTwo → Bool → Option ℕ → ℕ
class_on (One r) two rack = if is_rack r rack then 1 else 0
class_on (Two p q) true rack = if is_rack p rack || is_rack q rack then 0 else 1
class_on _ two rack = 0

-- the class of a target on a rack, for a block with the spread w: the same as `class_of`
abbrev pub class_by_spread : ReplicaSpread → Option ℕ → ℕ
class_by_spread w rack = class_on w.racks (are_two w.storages) rack
