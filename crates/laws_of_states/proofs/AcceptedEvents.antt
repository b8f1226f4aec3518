-- An accepted event whose numbers fit their types keeps a lawful state lawful.
use Rattle.std.proofs.Common.{◌≡◌, ℕ, ◌<◌, ◌^◌, Bool, true, false, not, Some, None, List, [], map, refl, sym, ap, ◌∙◌}
use Rattle.std.specs.Prelude.{◌==◌}
use Rattle.std.proofs.lemmas.Bool.{not-false}
use Rattle.bm_base.specs.declared.replica.ReplicaId.{ReplicaId}
use Rattle.bm_base.specs.declared.replica.Marks.{Marks}
use Rattle.bm_base.specs.declared.replica.Stamp.{Stamp}
use Rattle.bm_base.specs.declared.replica.BlockInfo.{BlockInfo}
use Rattle.bm_base.specs.declared.event.Entry.{Entry}
use Rattle.bm_base.specs.declared.event.Event.{Event}
use Rattle.bm_base.specs.declared.event.Event.TheVariants.{Register, Dead, StorageFailed, Heartbeat, Drain, Undrain, AddBlock, DeleteBlock, SetReplication, Restamp, Received, Deleted, Corrupt, FullReport}
use Rattle.bm_base.specs.declared.refusal.Refusal.TheVariants.{UnknownStorage, UnknownBlock, BlockKnown, StillStored, BadReplication, TooMany}
use Rattle.bm_base.specs.Words.{Map, get, keep, revise, revise_at, contains_key, Cluster, Holdings, State, replica_at, by_replica, has_storage, change_cluster, change_holdings, change, add_block, delete_block, set_replication, restamp, make_bad, remove_replica, without_storages, without_pending, change_marks_of_block, enter, report, expanded, first_of, is_too_long, cluster_checks, block_checks, knows_storage, knows_block, is_still_stored, is_bad_replication, refusal_of, after_event, register, heartbeat, without_node, without_storage, drain, undrain, are_allowed}
use Rattle.bm_base.specs.Promises.Lawful.{IsLawful, IsOrderly, IsLawfulHoldings, HasFittingNumbers}
use Rattle.bm_base.proofs.Options.{there, is_there}
use Rattle.bm_base.proofs.ForEach.{each_all, each_mapped}
use Rattle.bm_base.proofs.MapEntries.{Holds, get_kept, get_removed, known_revised, holds_inserted, holds_insert_all}
use Rattle.bm_base.proofs.Checks.{IsAccepted, accepted, all_fail, both_fail, first_fails}
use Rattle.bm_base.proofs.ClusterEvents.{fit_cluster, lawful_cluster, registrable}
use Rattle.bm_parts.proofs.RemainingHoldings.{after_death, after_failure, after_registration, after_heartbeat, after_removal, after_drain, after_undrain, drained_blocks, drained_replicas, drained_before}
use Rattle.laws_of_states.proofs.BlockEvents.{added_lawful, deleted_lawful, replication_lawful, restamped_lawful, found_lawful, info_after}
use Rattle.bm_parts.proofs.ReportedReplicas.{enter_lawful, enter_pending, report_lawful, report_pending, put_by, reported_below}
use Rattle.laws_of_states.proofs.LawfulRounds.{orderly, counted_lawful}
use Rattle.bm_base.specs.Promises.Fitting.{FitsEvent}

-- Facts about an accepted event.

received_known : (C : Cluster) (s b : ℕ) (stamp : Stamp) → first_of (cluster_checks C (Received s b stamp)) ≡ None → contains_key C.storages s ≡ true
unfolding cluster_checks knows_storage
received_known C s b stamp h = not-false (contains_key C.storages s) (first_fails UnknownStorage (not (knows_storage C s)) [] h).0

reported_known : (C : Cluster) (s : ℕ) (es : List Entry) → first_of (cluster_checks C (FullReport s es)) ≡ None → contains_key C.storages s ≡ true
unfolding cluster_checks knows_storage
reported_known C s es h = not-false (contains_key C.storages s) (both_fail UnknownStorage TooMany (not (knows_storage C s)) (is_too_long es) h).0

corrupt_known : (H : Holdings) (s b : ℕ) → first_of (block_checks H (Corrupt s b)) ≡ None → knows_block H b ≡ true
unfolding block_checks
corrupt_known H s b h = not-false (knows_block H b) (first_fails UnknownBlock (not (knows_block H b)) [] h).0

addable : (H : Holdings) (b : ℕ) (stamp : Stamp) (repl : ℕ) → first_of (block_checks H (AddBlock b stamp repl)) ≡ None → (knows_block H b ≡ false) × (is_still_stored H b ≡ false) × (is_bad_replication repl ≡ false)
unfolding block_checks
addable H b stamp repl h = all_fail BlockKnown StillStored BadReplication (knows_block H b) (is_still_stored H b) (is_bad_replication repl) h

settable : (H : Holdings) (b repl : ℕ) → first_of (block_checks H (SetReplication b repl)) ≡ None → is_bad_replication repl ≡ false
unfolding block_checks
settable H b repl h = (both_fail UnknownBlock BadReplication (not (knows_block H b)) (is_bad_replication repl) h).1

-- The holdings.

pub lawful_holdings : (M : State) (e : Event) → IsLawfulHoldings M.cluster M.holdings → IsAccepted M e → IsLawfulHoldings (change_cluster M.cluster e) (change_holdings M.cluster M.holdings e)
unfolding change_cluster change_holdings
lawful_holdings M (Register n rack ss) L A = after_registration M.cluster M.holdings n rack ss (registrable M.cluster n rack ss A.cluster) L
lawful_holdings M (Dead n) L A = after_death M.cluster M.holdings n L
lawful_holdings M (StorageFailed s) L A = after_failure M.cluster M.holdings s L
lawful_holdings M (Heartbeat n rs) L A = after_heartbeat M.cluster M.holdings rs L
lawful_holdings M (Drain n) L A = after_drain M.cluster M.holdings n L
lawful_holdings M (Undrain n) L A = after_undrain M.cluster M.holdings n L
lawful_holdings M (AddBlock b stamp repl) L A = let may = addable M.holdings b stamp repl A.blocks in added_lawful M.cluster M.holdings b stamp repl L may.0 may.1 may.2
lawful_holdings M (DeleteBlock b) L A = deleted_lawful M.cluster M.holdings b L
lawful_holdings M (SetReplication b repl) L A = replication_lawful M.cluster M.holdings b repl L (settable M.holdings b repl A.blocks)
lawful_holdings M (Restamp b stamp) L A = restamped_lawful M.cluster M.holdings b stamp L
lawful_holdings M (Received s b stamp) L A = enter_lawful M.cluster M.holdings (replica_at b s) stamp L (received_known M.cluster s b stamp A.cluster)
lawful_holdings M (Deleted s b) L A = after_removal M.cluster M.holdings (replica_at b s) L
lawful_holdings M (Corrupt s b) L A = found_lawful M.cluster M.holdings (replica_at b s) L (corrupt_known M.holdings s b A.blocks)
lawful_holdings M (FullReport s es) L A = report_lawful M.cluster M.holdings s (expanded es) L (reported_known M.cluster s es A.cluster)

-- an event commands no transfer
pub pending_before : (C : Cluster) (H : Holdings) (e : Event) (q : ReplicaId) (r : ℕ) → get (change_holdings C H e).pending q ≡ Some r → get H.pending q ≡ Some r
unfolding change_holdings without_storages add_block delete_block set_replication restamp make_bad remove_replica without_pending change_marks_of_block
pending_before C H (Dead n) q r e = (get_kept H.pending (λ q _. not (has_storage C n q.storage)) q r e).0
pending_before C H (StorageFailed s) q r e = (get_kept H.pending (λ q _. not (q.storage == s)) q r e).0
pending_before C H (DeleteBlock b) q r e = (get_kept H.pending (λ q _. not (q.block == b)) q r e).0
pending_before C H (Restamp b stamp) q r e = (get_kept H.pending (λ q _. not (q.block == b)) q r e).0
pending_before C H (Received s b stamp) q r e = enter_pending C H (replica_at b s) stamp q r e
pending_before C H (FullReport s es) q r e = report_pending C H s (expanded es) q r e
pending_before C H (Register n rack ss) q r e = e
pending_before C H (Heartbeat n rs) q r e = e
pending_before C H (Drain n) q r e = drained_before C H n q r e
pending_before C H (Undrain n) q r e = e
pending_before C H (AddBlock b stamp repl) q r e = e
pending_before C H (SetReplication b repl) q r e = e
pending_before C H (Deleted s b) q r e = e
pending_before C H (Corrupt s b) q r e = e

-- Numbers.

-- an event keeps the limits of the cluster
pub same_limits : (C : Cluster) (e : Event) → (change_cluster C e).limits ≡ C.limits
unfolding change_cluster register without_node without_storage heartbeat drain undrain
same_limits C (Register n rack ss) = refl
same_limits C (Dead n) = refl
same_limits C (StorageFailed s) = refl
same_limits C (Heartbeat n rs) = refl
same_limits C (Drain n) = refl
same_limits C (Undrain n) = refl
same_limits C (AddBlock b stamp repl) = refl
same_limits C (DeleteBlock b) = refl
same_limits C (SetReplication b repl) = refl
same_limits C (Restamp b stamp) = refl
same_limits C (Received s b stamp) = refl
same_limits C (Deleted s b) = refl
same_limits C (Corrupt s b) = refl
same_limits C (FullReport s es) = refl

abbrev FitsBlock : ℕ → BlockInfo → Type 0
FitsBlock b i = (b < 2 ^ 64) × (i.stamp.generation < 2 ^ 64) × (i.stamp.len < 2 ^ 64)

abbrev FitsReplica : ReplicaId → Marks → Type 0
FitsReplica q m = q.block < 2 ^ 64

blocks_fit : (C : Cluster) (H : Holdings) (e : Event) → FitsEvent e → Holds FitsBlock H.blocks → Holds FitsBlock (change_holdings C H e).blocks
unfolding change_holdings without_storages add_block delete_block set_replication restamp make_bad remove_replica without_pending change_marks_of_block enter report
blocks_fit C H (AddBlock b stamp repl) h F = holds_inserted FitsBlock H.blocks b (record { stamp = stamp; repl = repl }) F (h.0, h.1.0, h.1.1)
blocks_fit C H (DeleteBlock b) h F = λ c i e. F c i (get_removed H.blocks b c i e).1
blocks_fit C H (SetReplication b repl) h F = info_after H.blocks b (λ i. record i { repl = repl }) FitsBlock F (λ c i e. F c i e)
blocks_fit C H (Restamp b stamp) h F = info_after H.blocks b (λ i. record i { stamp = stamp }) FitsBlock F (λ c i e. ((F c i e).0, h.0, h.1))
blocks_fit C H (Dead n) h F = F
blocks_fit C H (StorageFailed s) h F = F
blocks_fit C H (Received s b stamp) h F = F
blocks_fit C H (Deleted s b) h F = F
blocks_fit C H (Corrupt s b) h F = F
blocks_fit C H (FullReport s es) h F = F
blocks_fit C H (Register n rack ss) h F = F
blocks_fit C H (Heartbeat n rs) h F = F
blocks_fit C H (Drain n) h F = λ b i e. F b i (ap (λ m. get m b) (sym (drained_blocks C H n)) ∙ e)
blocks_fit C H (Undrain n) h F = F

kept_fit : (m : Map by_replica Marks) (p : ReplicaId → Marks → Bool) → Holds FitsReplica m → Holds FitsReplica (keep m p)
kept_fit m p F q x e = F q x (get_kept m p q x e).0

revised_fit : (m : Map by_replica Marks) (f : ReplicaId → Marks → Marks) → Holds FitsReplica m → Holds FitsReplica (revise m f)
revised_fit m f F q x e = let was = there (get m q) (sym (known_revised m f q) ∙ is_there (get (revise m f) q) x e) in F q was.0 was.1

replicas_fit : (C : Cluster) (H : Holdings) (e : Event) → FitsEvent e → Holds FitsReplica H.replicas → Holds FitsReplica (change_holdings C H e).replicas
unfolding change_holdings without_storages add_block delete_block set_replication restamp make_bad remove_replica without_pending change_marks_of_block revise_at enter report
replicas_fit C H (Dead n) h F = kept_fit H.replicas _ F
replicas_fit C H (StorageFailed s) h F = kept_fit H.replicas _ F
replicas_fit C H (DeleteBlock b) h F = revised_fit H.replicas _ F
replicas_fit C H (Restamp b stamp) h F = revised_fit H.replicas _ F
replicas_fit C H (Received s b stamp) h F = holds_inserted FitsReplica (keep H.replicas _) (replica_at b s) _ (kept_fit H.replicas _ F) h
replicas_fit C H (Deleted s b) h F = λ q m e. F q m (get_removed H.replicas (replica_at b s) q m e).1
replicas_fit C H (Corrupt s b) h F = revised_fit H.replicas _ F
replicas_fit C H (FullReport s es) h F =
    holds_insert_all FitsReplica (keep H.replicas _) (map (put_by C H s (expanded es)) (expanded es)) (kept_fit H.replicas _ F)
    (each_mapped (λ e. FitsReplica e.0 e.1) (put_by C H s (expanded es)) (expanded es) (reported_below es (2 ^ 64) (each_all (λ x. x.to < 2 ^ 64) es h)))
replicas_fit C H (Register n rack ss) h F = F
replicas_fit C H (Heartbeat n rs) h F = F
replicas_fit C H (Drain n) h F = λ q m e. F q m (ap (λ k. get k q) (sym (drained_replicas C H n)) ∙ e)
replicas_fit C H (Undrain n) h F = F
replicas_fit C H (AddBlock b stamp repl) h F = F
replicas_fit C H (SetReplication b repl) h F = F

fit_change : (M : State) (e : Event) → FitsEvent e → HasFittingNumbers M → HasFittingNumbers (change M e)
fit_change M e h F =
    let K = fit_cluster M.cluster e (record { nodes = F.nodes; storages = F.storages }) h in
    record {
      limits = ap are_allowed (same_limits M.cluster e) ∙ F.limits;
      nodes = K.nodes;
      storages = K.storages;
      blocks = blocks_fit M.cluster M.holdings e h F.blocks;
      replicas = λ q is. let m = there (get (change_holdings M.cluster M.holdings e).replicas q) is in replicas_fit M.cluster M.holdings e h (λ q m is. F.replicas q (is_there (get M.holdings.replicas q) m is)) q m.0 m.1;
      round = F.round;
      calls = F.calls;
    }

pub event_orderly : (M : State) (e : Event) → IsOrderly M → refusal_of M e ≡ None → IsOrderly (after_event M e)
unfolding after_event
event_orderly M e O none =
    let A = accepted M e none in
    record {
      cluster = lawful_cluster M.cluster e O.cluster A.cluster;
      holdings = lawful_holdings M e O.holdings A;
      commanded = λ q r is. O.commanded q r (pending_before M.cluster M.holdings e q r is);
    }

pub event_lawful : (M : State) (e : Event) → IsLawful M → FitsEvent e → refusal_of M e ≡ None → IsLawful (after_event M e)
unfolding after_event
event_lawful M e L h none =
    let O = event_orderly M e (orderly M L) none in
    let changed : IsLawful (change M e) = record { cluster = O.cluster; holdings = O.holdings; numbers = fit_change M e h L.numbers; commanded = O.commanded } in
    counted_lawful (change M e) changed (accepted M e none).calls
