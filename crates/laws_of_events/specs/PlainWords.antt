-- What holds of the state after every list of calls, in terms of the state and the
-- limits of the cluster.
use Rattle.std.specs.Prelude.{◌≡◌, ◌≢◌, ℕ, ◌≤◌, IsTrue, IsSome, List, Some, None}
use Rattle.bm_base.specs.declared.config.Config.{Config}
use Rattle.bm_base.specs.declared.limits.Limits.{Limits}
use Rattle.bm_base.specs.declared.call.Call.{Call}
use Rattle.bm_base.specs.declared.replica.ReplicaId.{ReplicaId}
use Rattle.bm_base.specs.declared.replica.Tag.TheVariants.{Good, Stray}
use Rattle.bm_base.specs.declared.replica.Marks.{Marks}
use Rattle.bm_base.specs.declared.replica.BlockInfo.{BlockInfo}
use Rattle.bm_base.specs.declared.storage.StorageInfo.{StorageInfo}
use Rattle.bm_base.specs.declared.limits.TheConstants.{MAX_REPLICATION}
use Rattle.bm_base.specs.Words.{get, len, Cluster, Holdings, State, first_state_within, state_after}

-- the storage exists, on an alive node
abbrev pub IsOnAliveNode : Cluster → ℕ → Type 0
IsOnAliveNode C s = (i : StorageInfo) × (rack : ℕ) × (get C.storages s ≡ Some i) × (get C.nodes i.node ≡ Some rack)

pub record IsSound (l : Limits) (C : Cluster) (H : Holdings) : Type 0 where
  pub replicas_alive : (p : ReplicaId) → IsSome (get H.replicas p) → IsOnAliveNode C p.storage
  pub transfers_alive : (p : ReplicaId) → IsSome (get H.pending p) → IsOnAliveNode C p.storage
  -- a node that drains is alive, and no pending transfer goes to it
  pub draining_alive : (n : ℕ) → IsSome (get C.draining n) → IsSome (get C.nodes n)
  pub draining_spared : (p : ReplicaId) (i : StorageInfo) → IsSome (get H.pending p) → get C.storages p.storage ≡ Some i → get C.draining i.node ≡ None
  -- a node has at most one replica of a block
  pub one_on_a_node : (p q : ReplicaId) (i j : StorageInfo) → IsSome (get H.replicas p) → IsSome (get H.replicas q) → p.block ≡ q.block → get C.storages p.storage ≡ Some i → get C.storages q.storage ≡ Some j → i.node ≡ j.node → p ≡ q
  pub stray_unknown : (p : ReplicaId) (m : Marks) → get H.replicas p ≡ Some m → m.tag ≡ Stray → get H.blocks p.block ≡ None
  pub others_known : (p : ReplicaId) (m : Marks) → get H.replicas p ≡ Some m → m.tag ≢ Stray → IsSome (get H.blocks p.block)
  pub excess_good : (p : ReplicaId) (m : Marks) → get H.replicas p ≡ Some m → IsTrue m.excess → m.tag ≡ Good
  pub transfers_known : (p : ReplicaId) → IsSome (get H.pending p) → IsSome (get H.blocks p.block)
  -- the target of a pending transfer has no replica of the block yet
  pub transfers_to_come : (p : ReplicaId) → IsSome (get H.pending p) → get H.replicas p ≡ None
  pub nodes : len C.nodes ≤ l.nodes
  pub storages : len C.storages ≤ l.storages
  pub replication : (b : ℕ) (i : BlockInfo) → get H.blocks b ≡ Some i → (1 ≤ i.repl) × (i.repl ≤ MAX_REPLICATION)

abbrev pub SoundState : Limits → State → Type 0
SoundState l M = IsSound l M.cluster M.holdings

abbrev pub calls_lead_to_sound : Type 0
calls_lead_to_sound = (l : Limits) (c : Config) (ks : List Call) → SoundState l (state_after (first_state_within l c) ks)
