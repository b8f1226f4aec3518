-- What contracts see of a topology: the cluster of the definitions, and the spare capacity for
-- registrations and for draining.
use Rattle.std.specs.Prelude.{◌≡◌, ℕ, ◌+◌, ◌≤◌, Bool, true, false, length, refl}
use Rattle.std.specs.Coded.{Coded, code_by, coded×, coded_ℕ}
use Rattle.bm_base.specs.declared.event.Event.{Event}
use Rattle.bm_base.specs.declared.event.Event.TheVariants.{Register, Drain}
use Rattle.bm_base.specs.Words.{distinct, len, Cluster}
use Rattle.bm_base.specs.Codes.{coded_cluster}
use Rattle.bm_topo.specs.Racks.{racks_of}

-- the numbers of further nodes, nodes that drain, racks and storages that need no memory
pub record SpareCapacity : Type 0 where
  pub nodes : ℕ
  pub draining : ℕ
  pub racks : ℕ
  pub storages : ℕ

abbrev pub no_capacity : SpareCapacity
no_capacity = record { nodes = 0; draining = 0; racks = 0; storages = 0 }

pub record Seen : Type 0 where
  pub cluster : Cluster
  pub spare : SpareCapacity

-- whether an event adds something to the cluster; only then its preparation takes memory
abbrev pub grows_cluster : Event → Bool
grows_cluster (Register n rack ss) = true
grows_cluster (Drain n) = true
grows_cluster _ = false

-- whether the spare capacity suffices for an event
abbrev pub IsReadyFor : Event → SpareCapacity → Type 0
IsReadyFor (Register n rack ss) spare = (1 ≤ spare.nodes) × (1 ≤ spare.racks) × (length ss ≤ spare.storages)
IsReadyFor (Drain n) spare = 1 ≤ spare.draining
IsReadyFor _ spare = Unit {0}

-- whether there is as much spare capacity as before, or more
abbrev pub HasNoLessCapacity : SpareCapacity → SpareCapacity → Type 0
HasNoLessCapacity before after = (before.nodes ≤ after.nodes) × (before.draining ≤ after.draining) × (before.racks ≤ after.racks) × (before.storages ≤ after.storages)

-- whether the capacity for nodes, nodes that drain, racks and storages, used and spare, is the
-- same: no memory was taken or released
pub record IsSameCapacity (before after : Seen) : Type 0 where
  pub nodes : len after.cluster.nodes + after.spare.nodes ≡ len before.cluster.nodes + before.spare.nodes
  pub draining : len after.cluster.draining + after.spare.draining ≡ len before.cluster.draining + before.spare.draining
  pub racks : length (distinct (racks_of after.cluster.nodes)) + after.spare.racks ≡ length (distinct (racks_of before.cluster.nodes)) + before.spare.racks
  pub storages : len after.cluster.storages + after.spare.storages ≡ len before.cluster.storages + before.spare.storages

abbrev pub coded_capacity : Coded SpareCapacity
coded_capacity =
    code_by ((ℕ × ℕ) × (ℕ × ℕ)) (coded× (coded× coded_ℕ coded_ℕ) (coded× coded_ℕ coded_ℕ))
    (λ r. ((r.nodes, r.draining), (r.racks, r.storages)))
    (λ t. record { nodes = t.0.0; draining = t.0.1; racks = t.1.0; storages = t.1.1 }) (λ _. refl)

abbrev pub coded_seen : Coded Seen
coded_seen = code_by (Cluster × SpareCapacity) (coded× coded_cluster coded_capacity) (λ s. (s.cluster, s.spare)) (λ t. record { cluster = t.0; spare = t.1 }) (λ _. refl)
