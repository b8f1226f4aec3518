-- Where storages are, as a table of spots has it.
use Rattle.std.specs.Prelude.{◌≡◌, ℕ, ◌<◌, ◌≤◌, List, length, Some, slice_get}
use Rattle.bm_base.specs.Words.{Cluster, node_of, rack_of, is_draining}
use Rattle.bm_topo.specs.declared.spots.Spot.{Spot}

-- a spot is where its storage is in a cluster
pub record IsSpot (C : Cluster) (p : Spot) : Type 0 where
  pub node : node_of C p.storage ≡ Some p.node
  pub rack : rack_of C p.storage ≡ Some p.rack
  pub drains : p.drains ≡ is_draining C p.storage

-- the first n spots match the cluster
abbrev pub AreSpots : Cluster → List Spot → ℕ → Type 0
AreSpots C spots n = (k : ℕ) (p : Spot) → k < n → slice_get spots k ≡ Some p → IsSpot C p

-- a table of spots, of which the first n match the cluster
pub record HasSpots (C : Cluster) (spots : List Spot) (n : ℕ) : Type 0 where
  pub few : n ≤ length spots
  pub each : AreSpots C spots n
