-- Events that the cluster accepts, and rounds, keep all replicas on storages of alive nodes.
use Rattle.std.proofs.Common.{◌≡◌, ℕ, Bool, true, false, not, ◌||◌, Some, None, is_some, List, [], ◌∷◌, map, refl, sym, ap, ◌∙◌}
use Rattle.std.specs.Prelude.{◌==◌, if◌then◌else◌, IsSome, option_map, option_and_then}
use Rattle.std.specs.Ordering.{eq_by_cmp}
use Rattle.std.specs.List.{list_any}
use Rattle.std.proofs.lemmas.Bool.{or_parts, not-true, not-false}
use Rattle.bm_base.specs.declared.event.Event.TheVariants.{Register, Dead, StorageFailed, Heartbeat, Drain, Undrain, AddBlock, DeleteBlock, SetReplication, Restamp, Received, Deleted, Corrupt, FullReport}
use Rattle.bm_base.specs.declared.event.Remaining.{Remaining}
use Rattle.bm_base.specs.declared.refusal.Refusal.{Refusal}
use Rattle.bm_base.specs.declared.refusal.Refusal.TheVariants.{NodeKnown, StorageKnown, TooMany, UnknownStorage}
use Rattle.bm_base.specs.declared.replica.ReplicaId.{ReplicaId}
use Rattle.bm_base.specs.declared.replica.Marks.{Marks}
use Rattle.bm_base.specs.declared.replica.Stamp.{Stamp}
use Rattle.bm_base.specs.declared.storage.StorageInfo.{StorageInfo}
use Rattle.bm_base.specs.Words.{Map, get, keep, revise, revise_at, contains_key, Cluster, Holdings, by_replica, replica_at, replica_cmp, has_repeats, node_of, rack_of, has_storage, drains, ReportedBlock, expanded, register, heartbeat, without_node, without_storage, drain, undrain, without_storages, begin_drain, entered_marks, replaces, enter, leaves_by_report, report, without_pending, change_marks_of_block, add_block, delete_block, set_replication, restamp, make_bad, remove_replica, as_stray, as_restamped, as_bad, change_cluster, change_holdings, without_expired, without_unordered_excess, with_surplus_marked, end_round, first_of, cluster_checks, knows_node, knows_storage, is_too_long}
use Rattle.bm_base.specs.Shards.{shard_of}
use Rattle.bm_base.specs.RoundParts.{holdings_at_choice}
use Rattle.bm_base.specs.Promises.Lawful.{IsLawfulCluster}
use Rattle.bm_base.proofs.Checks.{first_fails, all_fail}
use Rattle.bm_base.proofs.Options.{there, is_there}
use Rattle.bm_base.proofs.ForEach.{each_of, each_mapped}
use Rattle.bm_base.proofs.MapEntries.{Holds, get_kept, get_revised, get_removed, known_revised, holds_inserted, holds_insert_all}
use Rattle.bm_parts.specs.LevelLaws as law
use Rattle.bm_parts.specs.LevelLaws.{IsRacked}
use Rattle.bm_parts.specs.Parts.{reported_of}
use Rattle.bm_parts.proofs.Deaths.{rack_elsewhere, rack_left}
use Rattle.bm_parts.proofs.ClusterLevels.{rack_after_heartbeat, same_after_register}

-- all replicas stay on racks if each storage with a rack keeps it
racked_alike : (C D : Cluster) (H : Holdings) → ((s : ℕ) → is_some (rack_of C s) ≡ true → rack_of D s ≡ rack_of C s) → IsRacked C H → IsRacked D H
racked_alike C D H same racked q here = let was = racked q here in ap is_some (same q.storage was) ∙ was

-- `racked_alike` if the storages that stay keep their racks
racked_left : (C D : Cluster) (H : Holdings) (gone : ℕ → Bool) → ((s : ℕ) → gone s ≡ false → rack_of D s ≡ rack_of C s) → IsRacked C H → IsRacked D (without_storages H gone)
unfolding without_storages
racked_left C D H gone same racked q here =
    let stayed = there (get (keep H.replicas (λ q _. not (gone q.storage))) q) here in
    let was = get_kept H.replicas (λ q _. not (gone q.storage)) q stayed.0 stayed.1 in
    ap is_some (same q.storage (not-true (gone q.storage) was.1)) ∙ racked q (is_there (get H.replicas q) stayed.0 was.0)

pub register_keeps_racked : (C : Cluster) (H : Holdings) (n rack : ℕ) (ss : List ℕ) → contains_key C.nodes n ≡ false → list_any (knows_storage C) ss ≡ false → IsRacked C H → IsRacked (register C n rack ss) H
register_keeps_racked C H n rack ss new unknown racked = racked_alike C (register C n rack ss) H (λ s was. (same_after_register C n rack ss new unknown s was).0) racked

pub heartbeat_keeps_racked : (C : Cluster) (H : Holdings) (rs : List Remaining) → IsRacked C H → IsRacked (heartbeat C rs) H
heartbeat_keeps_racked C H rs racked = racked_alike C (heartbeat C rs) H (λ s was. rack_after_heartbeat C rs s) racked

pub death_keeps_racked : (C : Cluster) (H : Holdings) (n : ℕ) → IsRacked C H → IsRacked (without_node C n) (without_storages H (has_storage C n))
death_keeps_racked C H n racked = racked_left C (without_node C n) H (has_storage C n) (rack_elsewhere C n) racked

pub failure_keeps_racked : (C : Cluster) (H : Holdings) (t : ℕ) → IsRacked C H → IsRacked (without_storage C t) (without_storages H (λ s. s == t))
failure_keeps_racked C H t racked = racked_left C (without_storage C t) H (λ s. s == t) (rack_left C t) racked

-- Nodes that drain.

rack_drained : (C : Cluster) (n s : ℕ) → rack_of (drain C n) s ≡ rack_of C s
unfolding drain rack_of node_of
rack_drained C n s = refl

rack_undrained : (C : Cluster) (n s : ℕ) → rack_of (undrain C n) s ≡ rack_of C s
unfolding undrain rack_of node_of
rack_undrained C n s = refl

-- a node that begins to drain keeps all replicas
same_replicas : (C : Cluster) (H : Holdings) (n : ℕ) → (begin_drain C H n).replicas ≡ H.replicas
unfolding begin_drain
same_replicas C H n = by_test (drains C n)
  where
    by_test : (t : Bool) → (if t then H else record H { pending = keep H.pending (λ q _. not (has_storage C n q.storage)) }).replicas ≡ H.replicas
    by_test true = refl
    by_test false = refl

pub drain_keeps_racked : (C : Cluster) (H : Holdings) (n : ℕ) → IsRacked C H → IsRacked (drain C n) (begin_drain C H n)
drain_keeps_racked C H n racked q here =
    racked_alike C (drain C n) H (λ s was. rack_drained C n s) racked q (ap (λ m. is_some (get m q)) (sym (same_replicas C H n)) ∙ here)

pub undrain_keeps_racked : (C : Cluster) (H : Holdings) (n : ℕ) → IsRacked C H → IsRacked (undrain C n) H
undrain_keeps_racked C H n racked = racked_alike C (undrain C n) H (λ s was. rack_undrained C n s) racked

-- Replicas that were there before.

module _ (C : Cluster) (P : Holdings) (racked : IsRacked C P) where
  racked_among : (G : Holdings) → ((q : ReplicaId) (m : Marks) → get G.replicas q ≡ Some m → IsSome (get P.replicas q)) → IsRacked C G
  racked_among G among q here = let m = there (get G.replicas q) here in racked q (among q m.0 m.1)

  either : (t : Bool) (G : Holdings) → IsRacked C G → IsRacked C (if t then G else P)
  either true G h = h
  either false G h = racked

  -- replicas whose marks changed
  racked_revised : (f : ReplicaId → Marks → Marks) (q : ReplicaId) (m : Marks) → get (revise P.replicas f) q ≡ Some m → IsSome (get P.replicas q)
  racked_revised f q m e = let was = get_revised P.replicas f q m e in is_there (get P.replicas q) was.0 was.1

-- The storage of a report.

known_rack : (C : Cluster) (s : ℕ) → IsLawfulCluster C → knows_storage C s ≡ true → IsSome (rack_of C s)
unfolding rack_of node_of knows_storage
known_rack C s lawful known =
    let i = there (get C.storages s) known in
    ap (λ z. is_some (option_and_then (λ n. get C.nodes n) (option_map (λ (i : StorageInfo). i.node) z))) i.1 ∙ lawful.alive s i.0 i.1

storage_known : (C : Cluster) (s : ℕ) (cs : List (Refusal × Bool)) → first_of ((UnknownStorage, not (knows_storage C s)) ∷ cs) ≡ None → knows_storage C s ≡ true
storage_known C s cs e = not-false (knows_storage C s) (first_fails UnknownStorage (not (knows_storage C s)) cs e).0

module _ (C : Cluster) (P : Holdings) (racked : IsRacked C P) (s : ℕ) (rack : IsSome (rack_of C s)) where
  abbrev HasRack : ReplicaId → Marks → Type 0
  HasRack q m = IsSome (rack_of C q.storage)

  staying_racked : (stays : ReplicaId → Marks → Bool) → Holds HasRack (keep P.replicas stays)
  staying_racked stays q m e = racked q (is_there (get P.replicas q) m (get_kept P.replicas stays q m e).0)

  holding : (G : Holdings) → Holds HasRack G.replicas → IsRacked C G
  holding G holds q here = let m = there (get G.replicas q) here in holds q m.0 m.1

  entered_racked : (b : ℕ) (stamp : Stamp) → IsRacked C (enter C P (replica_at b s) stamp)
  unfolding enter
  entered_racked b stamp =
      holding (enter C P (replica_at b s) stamp)
      (holds_inserted HasRack (keep P.replicas (λ q _. not (replaces C (replica_at b s) q))) (replica_at b s) (entered_marks P (replica_at b s) stamp) (staying_racked (λ q _. not (replaces C (replica_at b s) q))) rack)

  reported_racked : (ts : List ReportedBlock) → IsRacked C (report C P s ts)
  unfolding report
  reported_racked ts =
      holding (report C P s ts)
      (holds_insert_all HasRack (keep P.replicas (λ q _. not (leaves_by_report C s ts q))) (map (λ t. (replica_at t.id s, entered_marks P (replica_at t.id s) t.stamp)) ts)
      (staying_racked (λ q _. not (leaves_by_report C s ts q)))
      (each_mapped (λ e. HasRack e.0 e.1) (λ (t : ReportedBlock). (replica_at t.id s, entered_marks P (replica_at t.id s) t.stamp)) ts (each_of (λ _. IsSome (rack_of C s)) ts (λ _. rack))))

-- Events and rounds.

pub register_unrefused : (C : Cluster) (n rack : ℕ) (ss : List ℕ) → first_of (cluster_checks C (Register n rack ss)) ≡ None → (contains_key C.nodes n ≡ false) × (list_any (knows_storage C) ss ≡ false)
unfolding cluster_checks knows_node
register_unrefused C n rack ss e =
    let fails = all_fail NodeKnown StorageKnown TooMany (contains_key C.nodes n) (has_repeats ss || list_any (knows_storage C) ss) _ e in
    (fails.0, (or_parts (has_repeats ss) (list_any (knows_storage C) ss) fails.1).1)

pub event_keeps_racked : law.event_keeps_racked
unfolding change_cluster change_holdings cluster_checks add_block delete_block set_replication restamp without_pending change_marks_of_block make_bad revise_at remove_replica
event_keeps_racked C P (Register n rack ss) index shards lawful e racked =
    let fresh = register_unrefused C n rack ss e in register_keeps_racked C P n rack ss fresh.0 fresh.1 racked
event_keeps_racked C P (Dead n) index shards lawful e racked = death_keeps_racked C P n racked
event_keeps_racked C P (StorageFailed t) index shards lawful e racked = failure_keeps_racked C P t racked
event_keeps_racked C P (Heartbeat n rs) index shards lawful e racked = heartbeat_keeps_racked C P rs racked
event_keeps_racked C P (Drain n) index shards lawful e racked = drain_keeps_racked C P n racked
event_keeps_racked C P (Undrain n) index shards lawful e racked = undrain_keeps_racked C P n racked
event_keeps_racked C P (AddBlock b stamp repl) index shards lawful e racked = either C P racked (shard_of b shards == index) (add_block P b stamp repl) racked
event_keeps_racked C P (DeleteBlock b) index shards lawful e racked =
    either C P racked (shard_of b shards == index) (delete_block P b) (racked_among C P racked (delete_block P b) (racked_revised C P racked (λ q m. if q.block == b then as_stray m else m)))
event_keeps_racked C P (SetReplication b repl) index shards lawful e racked = either C P racked (shard_of b shards == index) (set_replication P b repl) racked
event_keeps_racked C P (Restamp b stamp) index shards lawful e racked =
    either C P racked (shard_of b shards == index) (restamp P b stamp) (racked_among C P racked (restamp P b stamp) (racked_revised C P racked (λ q m. if q.block == b then as_restamped m else m)))
event_keeps_racked C P (Received s b stamp) index shards lawful e racked =
    either C P racked (shard_of b shards == index) (enter C P (replica_at b s) stamp) (entered_racked C P racked s (known_rack C s lawful (storage_known C s [] e)) b stamp)
event_keeps_racked C P (Deleted s b) index shards lawful e racked =
    either C P racked (shard_of b shards == index) (remove_replica P (replica_at b s))
    (racked_among C P racked (remove_replica P (replica_at b s)) (λ q m here. is_there (get P.replicas q) m (get_removed P.replicas (replica_at b s) q m here).1))
event_keeps_racked C P (Corrupt s b) index shards lawful e racked =
    either C P racked (shard_of b shards == index) (make_bad P (replica_at b s))
    (racked_among C P racked (make_bad P (replica_at b s)) (racked_revised C P racked (λ q m. if eq_by_cmp replica_cmp q (replica_at b s) then as_bad m else m)))
event_keeps_racked C P (FullReport s es) index shards lawful e racked = reported_racked C P racked s (known_rack C s lawful (storage_known C s ((TooMany, is_too_long es) ∷ []) e)) (reported_of index shards (expanded es))

pub round_keeps_racked : law.round_keeps_racked
unfolding end_round holdings_at_choice with_surplus_marked without_unordered_excess without_expired
round_keeps_racked C pend r P index shards ts ds racked q here =
    racked q (revised_thrice P.replicas _ _ _ q here)
  where
    revised_once : (m : Map by_replica Marks) (f : ReplicaId → Marks → Marks) (q : ReplicaId) → IsSome (get (revise m f) q) → IsSome (get m q)
    revised_once m f q h = sym (known_revised m f q) ∙ h

    revised_thrice : (m : Map by_replica Marks) (f g h : ReplicaId → Marks → Marks) (q : ReplicaId) → IsSome (get (revise (revise (revise m f) g) h) q) → IsSome (get m q)
    revised_thrice m f g h q is = revised_once m f q (revised_once (revise m f) g q (revised_once (revise (revise m f) g) h q is))
