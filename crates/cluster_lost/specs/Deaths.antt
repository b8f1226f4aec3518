-- The state after the deaths of nodes.
use Rattle.std.specs.Prelude.{◌≡◌, ℕ, ◌==◌, Bool, false, not, List, map, filter}
use Rattle.std.specs.List.{list_any}
use Rattle.bm_base.specs.declared.event.Event.{Event}
use Rattle.bm_base.specs.declared.event.Event.TheVariants.{Dead}
use Rattle.bm_base.specs.Words.{State, get, entries, is_draining, rack_of}

abbrev pub death : ℕ → Event
death n = Dead n

-- whether a node is one of these
abbrev pub is_among : List ℕ → ℕ → Bool
is_among ns m = list_any (λ n. m == n) ns

-- N is M without some nodes, their storages, and the replicas there.
pub record IsWithout (M N : State) (gone dead : ℕ → Bool) : Type 0 where
  pub blocks : N.holdings.blocks ≡ M.holdings.blocks
  pub replicas : entries N.holdings.replicas ≡ filter (λ e. not (gone e.0.storage)) (entries M.holdings.replicas)
  pub storages : entries N.cluster.storages ≡ filter (λ e. not (gone e.0)) (entries M.cluster.storages)
  pub nodes : entries N.cluster.nodes ≡ filter (λ e. not (dead e.0)) (entries M.cluster.nodes)
  pub info : (s : ℕ) → gone s ≡ false → get N.cluster.storages s ≡ get M.cluster.storages s
  pub draining : (s : ℕ) → gone s ≡ false → is_draining N.cluster s ≡ is_draining M.cluster s
  pub racks : (s : ℕ) → gone s ≡ false → rack_of N.cluster s ≡ rack_of M.cluster s
