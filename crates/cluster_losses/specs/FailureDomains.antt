-- Failure domains: the racks or nodes of which each is lost alone.
use Rattle.std.specs.Prelude.{◌≡◌, ℕ, ◌==◌, List, [], ◌∷◌, map, filter, unwrap_or}
use Rattle.std.specs.List.Sorted.{IsStrictlyIncreasing}
use Rattle.bm_base.specs.Words.{Cluster, get, has, keys}
use Rattle.cluster_losses.specs.declared.failure_domains.FailureDomain.{FailureDomain}

-- the rack of an alive node
abbrev pub rack_number : Cluster → ℕ → ℕ
rack_number C n = unwrap_or (get C.nodes n) 0

-- the alive nodes of a rack, ascending
abbrev pub nodes_on : Cluster → ℕ → List ℕ
nodes_on C r = filter (λ n. rack_number C n == r) (keys C.nodes)

-- a rack, with its alive nodes
abbrev pub rack_domain : Cluster → ℕ → FailureDomain
rack_domain C r = record { number = r; nodes = nodes_on C r }

-- a node alone
abbrev pub node_domain : ℕ → FailureDomain
node_domain n = record { number = n; nodes = n ∷ [] }

-- these are the racks of alive nodes, ascending
pub record AreRackNumbers (C : Cluster) (rs : List ℕ) : Type 0 where
  pub ascending : IsStrictlyIncreasing rs
  pub all : (r : ℕ) → has rs r ≡ has (map (rack_number C) (keys C.nodes)) r

-- each rack that has alive nodes, ascending, with these nodes
pub record AreRacks (C : Cluster) (domains : List FailureDomain) : Type 0 where
  pub racks : List ℕ
  pub numbers : AreRackNumbers C racks
  pub is : domains ≡ map (rack_domain C) racks
