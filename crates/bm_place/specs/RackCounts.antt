-- The number of replicas that may be in excess on each rack.
use Rattle.std.specs.Prelude.{◌≡◌, ℕ, Bool, List, count_by}
use Rattle.bm_base.specs.Words.{Map, by_number, Cluster, rack_of}
use Rattle.bm_place.specs.ReplicaSpread.{is_rack}
use Rattle.bm_place.specs.Tables.{count_at}

-- whether a storage is on rack r
abbrev pub is_on : Cluster → ℕ → ℕ → Bool
is_on C r s = is_rack r (rack_of C s)

-- the counts have for every rack the number of these storages on it; 0 for none
abbrev pub CountsRacks : Cluster → List ℕ → Map by_number ℕ → Type 0
CountsRacks C ss counts = (r : ℕ) → count_at counts r ≡ count_by (is_on C r) ss
