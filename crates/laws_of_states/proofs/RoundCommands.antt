-- A round commands only what it has chosen, and deletes only replicas that are deletable.
use Rattle.std.specs.Prelude.{◌≡◌, ℕ, Bool, true, false, ◌&&◌, ◌==◌, if◌then◌else◌, List, [], map, filter, flat_map, Some}
use Rattle.std.proofs.Common.{subst}
use Rattle.std.proofs.lemmas.Bool.{eqb-true}
use Rattle.bm_base.specs.declared.replica.ReplicaId.{ReplicaId}
use Rattle.bm_base.specs.declared.replica.Marks.{Marks}
use Rattle.bm_base.specs.declared.commands.Transfer.{Transfer}
use Rattle.bm_base.specs.declared.commands.Delete.{Delete}
use Rattle.bm_base.specs.declared.commands.NodeCommands.{NodeCommands}
use Rattle.bm_base.specs.Words.{get, entries, keys, RoundLimits, Cluster, Holdings, State, replica_at, has_storage, state_after_expiry, state_at_choice, transfers, is_deletable, deletable_on, deletes_of, deletes, is_commanded, whole_round, commands_of, node_commands, has_commands}
use Rattle.bm_base.specs.Promises.NextRound.{deletes_commanded, transfers_commanded}
use Rattle.bm_base.proofs.ForEach.{Each, each_of, each_take, each_mapped, each_filter_by, each_flat_map, each_any}
use Rattle.bm_base.proofs.ListTests.{and_first, and_second}
use Rattle.bm_base.proofs.MapEntries.{each_entry}

-- Chosen deletes.

-- a chosen delete is of a replica that exists and is deletable
pub record IsChosen (C : Cluster) (H : Holdings) (d : Delete) : Type 0 where
  pub marks : Marks
  pub is_there : get H.replicas (replica_at d.block d.storage) ≡ Some marks
  pub deletable : is_deletable C H (replica_at d.block d.storage) marks ≡ true

module _ (C : Cluster) (H : Holdings) where
  chosen_entry : (s : ℕ) (e : ReplicaId × Marks) → get H.replicas e.0 ≡ Some e.1 → ((e.0.storage == s) && is_deletable C H e.0 e.1) ≡ true
      → IsChosen C H (record { storage = s; block = e.0.block })
  chosen_entry s e found t =
      let is : e.0.storage ≡ s = eqb-true e.0.storage s (and_first (e.0.storage == s) (is_deletable C H e.0 e.1) t) in
      subst (λ z. IsChosen C H (record { storage = z; block = e.0.block })) is
      (record { marks = e.1; is_there = found; deletable = and_second (e.0.storage == s) (is_deletable C H e.0 e.1) t })

  chosen_on : (s : ℕ) → Each (IsChosen C H) (deletable_on C H s)
  unfolding deletable_on
  chosen_on s =
      each_mapped (IsChosen C H) (λ e. record { storage = s; block = e.0.block }) (filter (λ e. (e.0.storage == s) && is_deletable C H e.0 e.1) (entries H.replicas))
      (each_filter_by (λ e. get H.replicas e.0 ≡ Some e.1) (λ e. (e.0.storage == s) && is_deletable C H e.0 e.1) (λ e. IsChosen C H (record { storage = s; block = e.0.block }))
      (chosen_entry s) (entries H.replicas) (each_entry H.replicas))

  chosen_where : (b : Bool) (s : ℕ) → Each (IsChosen C H) (if b then deletable_on C H s else [])
  chosen_where true s = chosen_on s
  chosen_where false s = tt

  chosen_of : (limits : RoundLimits) (n : ℕ) → Each (IsChosen C H) (deletes_of limits C H n)
  unfolding deletes_of
  chosen_of limits n =
      each_take (IsChosen C H) limits.invalidate (flat_map (λ s. if has_storage C n s then deletable_on C H s else []) (keys C.storages))
      (each_flat_map (λ _. Unit {0}) (IsChosen C H) (λ s. if has_storage C n s then deletable_on C H s else []) (λ s _. chosen_where (has_storage C n s) s) (keys C.storages)
      (each_of (λ _. Unit {0}) (keys C.storages) (λ _. tt)))

  pub chosen_deletes : (limits : RoundLimits) → Each (IsChosen C H) (deletes limits C H)
  unfolding deletes
  chosen_deletes limits =
      each_flat_map (λ _. Unit {0}) (IsChosen C H) (deletes_of limits C H) (λ n _. chosen_of limits n) (keys C.nodes) (each_of (λ _. Unit {0}) (keys C.nodes) (λ _. tt))

-- Commanded deletes.

module _ (C : Cluster) (r : ℕ) (ts : List Transfer) (ds : List Delete) where
  -- what holds of each chosen delete holds of each commanded one
  pub each_commanded_delete : (P : Delete → Type 0) → Each P ds → Each P (flat_map (λ k. k.deletes) (commands_of C r ts ds).nodes)
  unfolding commands_of node_commands
  each_commanded_delete P h =
      each_flat_map (λ (k : NodeCommands). Each P k.deletes) P (λ k. k.deletes) (λ k each. each) (filter has_commands (map (node_commands C ts ds) (keys C.nodes)))
      (each_filter_by (λ (k : NodeCommands). Each P k.deletes) has_commands (λ (k : NodeCommands). Each P k.deletes) (λ k each _. each) (map (node_commands C ts ds) (keys C.nodes))
      (each_mapped (λ (k : NodeCommands). Each P k.deletes) (node_commands C ts ds) (keys C.nodes)
      (each_of (λ n. Each P (node_commands C ts ds n).deletes) (keys C.nodes) (λ n. each_filter_by P (λ d. has_storage C n d.storage) P (λ d p _. p) ds h))))

  pub each_commanded_transfer : (P : Transfer → Type 0) → Each P ts → Each P (flat_map (λ k. k.transfers) (commands_of C r ts ds).nodes)
  unfolding commands_of node_commands
  each_commanded_transfer P h =
      each_flat_map (λ (k : NodeCommands). Each P k.transfers) P (λ k. k.transfers) (λ k each. each) (filter has_commands (map (node_commands C ts ds) (keys C.nodes)))
      (each_filter_by (λ (k : NodeCommands). Each P k.transfers) has_commands (λ (k : NodeCommands). Each P k.transfers) (λ k each _. each) (map (node_commands C ts ds) (keys C.nodes))
      (each_mapped (λ (k : NodeCommands). Each P k.transfers) (node_commands C ts ds) (keys C.nodes)
      (each_of (λ n. Each P (node_commands C ts ds n).transfers) (keys C.nodes) (λ n. each_filter_by P (λ t. has_storage C n t.source) P (λ d p _. p) ts h))))

-- the deletes and the transfers that the next round chooses
abbrev pub chosen_deletes_of : State → List Delete
chosen_deletes_of M = let N = state_at_choice M in deletes N.limits N.cluster N.holdings

abbrev pub chosen_transfers_of : State → List Transfer
chosen_transfers_of M = let N = state_at_choice M in transfers N.limits N.cluster N.holdings

pub each_delete : (M : State) (P : Delete → Type 0) → Each P (chosen_deletes_of M) → Each P (deletes_commanded M)
unfolding whole_round
each_delete M P h = each_commanded_delete (state_at_choice M).cluster (state_at_choice M).round (chosen_transfers_of M) (chosen_deletes_of M) P h

pub each_transfer : (M : State) (P : Transfer → Type 0) → Each P (chosen_transfers_of M) → Each P (transfers_commanded M)
unfolding whole_round
each_transfer M P h = each_commanded_transfer (state_at_choice M).cluster (state_at_choice M).round (chosen_transfers_of M) (chosen_deletes_of M) P h

pub at_same : (d : Delete) (q : ReplicaId) → ((d.storage == q.storage) && (d.block == q.block)) ≡ true → replica_at d.block d.storage ≡ q
at_same d q e =
    let s : d.storage ≡ q.storage = eqb-true d.storage q.storage (and_first (d.storage == q.storage) (d.block == q.block) e) in
    let b : d.block ≡ q.block = eqb-true d.block q.block (and_second (d.storage == q.storage) (d.block == q.block) e) in
    λ j. record { block = b j; storage = s j }

-- the test by which a replica is among those that the next round commands to delete
abbrev pub IsTested : State → ReplicaId → Type 0
IsTested M q = is_commanded (deletes_commanded M) q ≡ true

-- a commanded delete is of a replica that exists and is deletable
pub deleted_is : (M : State) (q : ReplicaId) → IsTested M q → (m : Marks) × (get (state_at_choice M).holdings.replicas q ≡ Some m) × (is_deletable M.cluster (state_at_choice M).holdings q m ≡ true)
unfolding is_commanded state_at_choice state_after_expiry
deleted_is M q h =
    let found = each_any (IsChosen M.cluster (state_at_choice M).holdings) (λ d. (d.storage == q.storage) && (d.block == q.block)) (deletes_commanded M)
    (each_delete M (IsChosen M.cluster (state_at_choice M).holdings) (chosen_deletes M.cluster (state_at_choice M).holdings M.limits)) h in
    let is = at_same found.0 q found.2 in
    (found.1.marks, subst (λ p. get (state_at_choice M).holdings.replicas p ≡ Some found.1.marks) is found.1.is_there, subst (λ p. is_deletable M.cluster (state_at_choice M).holdings p found.1.marks ≡ true) is found.1.deletable)
