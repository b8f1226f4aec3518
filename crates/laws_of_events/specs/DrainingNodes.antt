-- Laws of nodes that drain.
use Rattle.std.specs.Prelude.{◌≡◌, ◌≢◌, ℕ, ◌≤◌, ◌<◌, Bool, true, false, ◌↔◌, IsTrue, IsSome, length, List, Some, None}
use Rattle.bm_base.specs.declared.replica.ReplicaId.{ReplicaId}
use Rattle.bm_base.specs.declared.replica.Tag.TheVariants.{Good}
use Rattle.bm_base.specs.declared.replica.BlockInfo.{BlockInfo}
use Rattle.bm_base.specs.declared.config.Config.{Config}
use Rattle.bm_base.specs.declared.limits.Limits.{Limits}
use Rattle.bm_base.specs.declared.event.Event.{Event}
use Rattle.bm_base.specs.declared.event.Event.TheVariants.{Register, Dead, Drain, Undrain}
use Rattle.bm_base.specs.declared.call.Call.{Call}
use Rattle.bm_base.specs.declared.call.Call.TheVariants as call
use Rattle.bm_base.specs.declared.call.Answer.TheVariants as answer
use Rattle.bm_base.specs.Words.{get, has, Cluster, Holdings, State, replica_at, first_state_within, live, drains, is_draining, usable, missing_blocks, is_retired, done_by, after_event, count_call, step, state_after}
use Rattle.laws_of_events.specs.Reports.{held_after}
use Rattle.laws_of_events.specs.Changes.{cluster_after, IsOn}
use Rattle.laws_of_events.specs.Queries.{IsHeld}

-- Which nodes drain.

-- after an event node n drains exactly if `now`, and other nodes drain as before
abbrev pub LeavesDraining : State → Event → ℕ → Bool → Type 0
LeavesDraining M e n now = (drains (cluster_after M e) n ≡ now) × ((m : ℕ) → m ≢ n → drains (cluster_after M e) m ≡ drains M.cluster m)

abbrev pub node_begins_to_drain : Type 0
node_begins_to_drain = (M : State) (n : ℕ) → LeavesDraining M (Drain n) n true

abbrev pub node_ceases_to_drain : Type 0
node_ceases_to_drain = (M : State) (n : ℕ) → LeavesDraining M (Undrain n) n false

abbrev pub registered_node_does_not_drain : Type 0
registered_node_does_not_drain = (M : State) (n rack : ℕ) (ss : List ℕ) → LeavesDraining M (Register n rack ss) n false

abbrev pub dead_node_does_not_drain : Type 0
dead_node_does_not_drain = (M : State) (n : ℕ) → LeavesDraining M (Dead n) n false

-- whether an event may change which nodes exist or drain
abbrev pub is_of_a_node : Event → Bool
is_of_a_node (Register n rack ss) = true
is_of_a_node (Dead n) = true
is_of_a_node (Drain n) = true
is_of_a_node (Undrain n) = true
is_of_a_node _ = false

abbrev pub other_events_leave_draining : Type 0
other_events_leave_draining = (M : State) (e : Event) → is_of_a_node e ≡ false → (cluster_after M e).draining ≡ M.cluster.draining

-- What else the two events change.

-- nodes, storages, blocks, replicas and the round number stay
pub record LeavesTheRest (M N : State) : Type 0 where
  pub nodes : N.cluster.nodes ≡ M.cluster.nodes
  pub storages : N.cluster.storages ≡ M.cluster.storages
  pub blocks : N.holdings.blocks ≡ M.holdings.blocks
  pub replicas : N.holdings.replicas ≡ M.holdings.replicas
  pub round : N.round ≡ M.round

-- when a node begins to drain, exactly the pending transfers to its storages are dropped
abbrev pub drain_takes_transfers : Type 0
drain_takes_transfers =
    (M : State) (n : ℕ)
    → LeavesTheRest M (after_event M (Drain n))
    × ((p : ReplicaId) → drains M.cluster n ≡ false → IsOn M.cluster n p.storage → get (held_after M (Drain n)).pending p ≡ None)
    × ((p : ReplicaId) → (IsOn M.cluster n p.storage → ⊥) → get (held_after M (Drain n)).pending p ≡ get M.holdings.pending p)
    × (done_by M (Drain n) ≡ record { added = 0; removed = 0 })

abbrev pub undrain_takes_nothing : Type 0
undrain_takes_nothing =
    (M : State) (n : ℕ)
    → LeavesTheRest M (after_event M (Undrain n))
    × (held_after M (Undrain n) ≡ M.holdings)
    × (done_by M (Undrain n) ≡ record { added = 0; removed = 0 })

-- Only the number of calls changes.

abbrev pub second_drain_changes_nothing : Type 0
second_drain_changes_nothing = (M : State) (n : ℕ) → IsTrue (drains M.cluster n) → after_event M (Drain n) ≡ count_call M

abbrev pub idle_undrain_changes_nothing : Type 0
idle_undrain_changes_nothing = (M : State) (n : ℕ) → drains M.cluster n ≡ false → after_event M (Undrain n) ≡ count_call M

-- after every list of calls, no pending transfer goes to a node that drains
abbrev pub no_transfer_to_draining : Type 0
no_transfer_to_draining =
    (l : Limits) (c : Config) (ks : List Call) (p : ReplicaId)
    → IsSome (get (state_after (first_state_within l c) ks).holdings.pending p) → is_draining (state_after (first_state_within l c) ks).cluster p.storage ≡ false

-- Taking a node away.

-- a node is retired exactly if it drains and each known block that has a usable replica on it has
-- at least the wanted number of live ones
abbrev pub retired_is_said_plainly : Type 0
retired_is_said_plainly =
    (C : Cluster) (H : Holdings) (n : ℕ)
    → IsTrue (is_retired C H n)
    ↔ (IsTrue (drains C n)
    × ((b s : ℕ) (i : BlockInfo) → get H.blocks b ≡ Some i → IsOn C n s → IsHeld H (replica_at b s) (λ m. (m.tag ≡ Good) × (m.excess ≡ false)) → i.repl ≤ length (live C H b)))

-- If the query answers yes, the node may die. Each block keeps its live replicas, a block with too
-- few live ones keeps all its usable ones, and no further block is missing.
pub record NothingIsMissed (M N : State) : Type 0 where
  pub live_stay : (b : ℕ) → live N.cluster N.holdings b ≡ live M.cluster M.holdings b
  pub usable_stay : (b : ℕ) (i : BlockInfo) → get M.holdings.blocks b ≡ Some i → length (live M.cluster M.holdings b) < i.repl → usable N.holdings b ≡ usable M.holdings b
  pub none_missing : (b : ℕ) → IsTrue (has (missing_blocks N.cluster N.holdings) b) → IsTrue (has (missing_blocks M.cluster M.holdings) b)

abbrev pub retired_node_may_die : State → Type 0
retired_node_may_die M = (n : ℕ) → (step M (call.Retired n)).0 ≡ answer.IsRetired true → NothingIsMissed M (after_event M (Dead n))
