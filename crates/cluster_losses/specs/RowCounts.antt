-- The counts of a cluster without some nodes.
use Rattle.std.specs.Prelude.{◌≡◌, ℕ, ◌||◌, Bool, false, not, List, map, filter}
use Rattle.std.specs.Option.{option_map_or}
use Rattle.std.specs.List.Sorted.{IsStrictlyIncreasing}
use Rattle.bm_base.specs.Words.{Cluster, has, keys, node_of}
use Rattle.cluster_lost.specs.Deaths.{is_among}
use Rattle.cluster_losses.specs.FailureDomains.{rack_number}

-- whether a storage is on one of these nodes
abbrev pub is_on_any : Cluster → List ℕ → ℕ → Bool
is_on_any C ns s = option_map_or (is_among ns) (node_of C s) false

-- the racks of the alive nodes without these
abbrev pub racks_without : Cluster → List ℕ → List ℕ
racks_without C ns = map (rack_number C) (filter (λ n. not (is_among ns n)) (keys C.nodes))

-- the numbers of two lists, ascending, each once
pub record IsMerged (xs ys zs : List ℕ) : Type 0 where
  pub ascending : IsStrictlyIncreasing zs
  pub all : (b : ℕ) → has zs b ≡ (has xs b || has ys b)
