-- The lawful states: what holds of every state that calls lead to, if all numbers fit their types.
use Rattle.std.specs.Prelude.{◌≡◌, ℕ, ◌≤◌, ◌<◌, ◌^◌, false, IsTrue, not, Some, IsSome}
use Rattle.bm_base.specs.declared.replica.ReplicaId.{ReplicaId}
use Rattle.bm_base.specs.declared.replica.Marks.{Marks}
use Rattle.bm_base.specs.declared.replica.BlockInfo.{BlockInfo}
use Rattle.bm_base.specs.declared.storage.StorageInfo.{StorageInfo}
use Rattle.bm_base.specs.Maps.Map.{get, contains_key, len}
use Rattle.bm_base.specs.Machine.State.{Cluster, Holdings, State}
use Rattle.bm_base.specs.Machine.Configuration.{are_allowed}
use Rattle.bm_base.specs.Machine.Replicas.{is_good, is_stray, drains, are_siblings}
use Rattle.bm_base.specs.declared.limits.TheConstants.{MAX_REPLICATION}

-- the cluster: each storage is on an alive node, only alive nodes drain, and the limits are kept
pub record IsLawfulCluster (C : Cluster) : Type 0 where
  pub alive : (s : ℕ) (i : StorageInfo) → get C.storages s ≡ Some i → IsTrue (contains_key C.nodes i.node)
  pub draining_alive : (n : ℕ) → IsTrue (drains C n) → IsTrue (contains_key C.nodes n)
  pub few_nodes : len C.nodes ≤ C.limits.nodes
  pub few_storages : len C.storages ≤ C.limits.storages

-- the blocks and replicas of a cluster
pub record IsLawfulHoldings (C : Cluster) (H : Holdings) : Type 0 where
  -- each replica is on a known storage, and each pending transfer goes to one
  pub stored : (p : ReplicaId) → IsSome (get H.replicas p) → IsTrue (contains_key C.storages p.storage)
  pub pending_stored : (p : ReplicaId) → IsSome (get H.pending p) → IsTrue (contains_key C.storages p.storage)
  -- a node has at most one replica of a block
  pub once : (p q : ReplicaId) → IsSome (get H.replicas p) → IsSome (get H.replicas q) → p.block ≡ q.block → are_siblings C p.storage q.storage ≡ false
  -- a replica is stray exactly if its block is not known
  pub strays : (p : ReplicaId) (m : Marks) → get H.replicas p ≡ Some m → is_stray m.tag ≡ not (contains_key H.blocks p.block)
  -- only good replicas are in excess
  pub excess_is_good : (p : ReplicaId) (m : Marks) → get H.replicas p ≡ Some m → IsTrue m.excess → IsTrue (is_good m.tag)
  -- a pending transfer is of a known block
  pub pending_known : (p : ReplicaId) → IsSome (get H.pending p) → IsTrue (contains_key H.blocks p.block)
  -- one to sixteen replicas of a block are wanted
  pub replicated : (b : ℕ) (i : BlockInfo) → get H.blocks b ≡ Some i → (1 ≤ i.repl) × (i.repl ≤ MAX_REPLICATION)

-- the limits are allowed ones, and the numbers fit their types
pub record HasFittingNumbers (M : State) : Type 0 where
  pub limits : IsTrue (are_allowed M.cluster.limits)
  pub nodes : (n rack : ℕ) → get M.cluster.nodes n ≡ Some rack → (n < 2 ^ 32) × (rack < 2 ^ 32)
  pub storages : (s : ℕ) (i : StorageInfo) → get M.cluster.storages s ≡ Some i → (s < 2 ^ 32) × (i.remaining < 2 ^ 64)
  pub blocks : (b : ℕ) (i : BlockInfo) → get M.holdings.blocks b ≡ Some i → (b < 2 ^ 64) × (i.stamp.generation < 2 ^ 64) × (i.stamp.len < 2 ^ 64)
  pub replicas : (p : ReplicaId) → IsSome (get M.holdings.replicas p) → p.block < 2 ^ 64
  pub round : M.round < 2 ^ 64
  pub calls : M.calls < 2 ^ 64

-- no transfer was commanded in a future round
abbrev pub IsCommandedByNow : State → Type 0
IsCommandedByNow M = (p : ReplicaId) (r : ℕ) → get M.holdings.pending p ≡ Some r → r ≤ M.round

pub record IsLawful (M : State) : Type 0 where
  pub cluster : IsLawfulCluster M.cluster
  pub holdings : IsLawfulHoldings M.cluster M.holdings
  pub numbers : HasFittingNumbers M
  pub commanded : IsCommandedByNow M

-- lawful but for the sizes of the numbers: so is every state that calls lead to, whatever numbers
-- they bring
pub record IsOrderly (M : State) : Type 0 where
  pub cluster : IsLawfulCluster M.cluster
  pub holdings : IsLawfulHoldings M.cluster M.holdings
  pub commanded : IsCommandedByNow M
