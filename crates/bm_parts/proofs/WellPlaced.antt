-- Accepted events and rounds keep the laws on where replicas are and which are in excess.
use Rattle.std.proofs.Common.{◌≡◌, ℕ, Bool, true, false, not, Some, None, is_some, IsTrue, List, [], ◌∷◌, refl, sym, ap, subst, ◌∙◌, ◌⊎◌, inl, inr, eqb-true}
use Rattle.std.specs.Prelude.{◌==◌, if◌then◌else◌}
use Rattle.std.specs.Ordering.{eq_by_cmp, nat_cmp}
use Rattle.std.proofs.lemmas.Bool.{and_parts, false≢true, not-true, not_from_false, not-false}
use Rattle.bm_base.specs.declared.event.Event.TheVariants.{Register, Dead, StorageFailed, Heartbeat, Drain, Undrain, AddBlock, DeleteBlock, SetReplication, Restamp, Received, Deleted, Corrupt, FullReport}
use Rattle.bm_base.specs.declared.event.Remaining.{Remaining}
use Rattle.bm_base.specs.declared.refusal.Refusal.{Refusal}
use Rattle.bm_base.specs.declared.refusal.Refusal.TheVariants.{TooMany, UnknownStorage}
use Rattle.bm_base.specs.declared.replica.ReplicaId.{ReplicaId}
use Rattle.bm_base.specs.declared.replica.Marks.{Marks}
use Rattle.bm_base.specs.declared.replica.Stamp.{Stamp}
use Rattle.bm_base.specs.Words.{get, keep, revise, revise_at, contains_key, Cluster, Holdings, replica_at, replica_cmp, has, node_of, has_storage, is_good, are_siblings, ReportedBlock, expanded, register, heartbeat, without_node, without_storage, drain, undrain, without_storages, begin_drain, replaces, enter, is_named, leaves_by_report, report, without_pending, change_marks_of_block, add_block, delete_block, set_replication, restamp, make_bad, remove_replica, as_stray, as_restamped, as_bad, change_cluster, change_holdings, without_expired, without_unordered_excess, excess_in, with_surplus_marked, end_round, is_commanded, first_of, cluster_checks, knows_storage, is_too_long}
use Rattle.bm_base.specs.Shards.{shard_of}
use Rattle.bm_base.specs.RoundParts.{holdings_at_choice, own_transfers, own_deletes}
use Rattle.bm_base.proofs.MapLaws.{get-remove}
use Rattle.bm_parts.proofs.KeepLaws.{get-keep_there}
use Rattle.bm_base.proofs.Ties.{number_tie}
use Rattle.bm_base.proofs.Checks.{first_fails}
use Rattle.bm_base.proofs.Options.{there, is_there, not_taken}
use Rattle.bm_base.proofs.ForEach.{each_mapped, each_then, none_passes}
use Rattle.bm_base.proofs.MapEntries.{Holds, get_kept, get_revised, get_removed, known_revised, get_insert_all_elsewhere}
use Rattle.bm_base.proofs.Clusters.{same_node, as_known, same_siblings, siblings_turned, no_sibling_itself}
use Rattle.bm_base.proofs.ClusterEvents.{IsRegistrable, registrable, fresh, same_nodes}
use Rattle.bm_parts.proofs.RemainingHoldings.{drained_replicas, other_key}
use Rattle.bm_parts.proofs.ReportedReplicas.{IsKept, IsPut, enter_origin, report_origin, stays_by, entered_excess, sibling_fails, named_stays}
use Rattle.bm_parts.proofs.ChosenCopies.{in_excess_usable}
use Rattle.bm_parts.specs.PlacedLaws as law
use Rattle.bm_parts.specs.PlacedLaws.{IsPlaced}
use Rattle.bm_parts.specs.Parts.{reported_of}

pub lawful_is_placed : law.lawful_is_placed
lawful_is_placed C H L = record { stored = L.stored; once = L.once; excess_is_good = L.excess_is_good }

-- G in D has only replicas that H has in C, on storages that keep their nodes
module _ (C D : Cluster) (H G : Holdings) (L : IsPlaced C H) (was : (p : ReplicaId) → is_some (get G.replicas p) ≡ true → is_some (get H.replicas p) ≡ true)
    (nodes : (p : ReplicaId) → is_some (get G.replicas p) ≡ true → node_of D p.storage ≡ node_of C p.storage)
    (excess : (p : ReplicaId) (m : Marks) → get G.replicas p ≡ Some m → IsTrue m.excess → IsTrue (is_good m.tag)) where
  placed_among : IsPlaced D G
  placed_among = record {
    stored = λ p e. as_known C D p.storage (nodes p e) (L.stored p (was p e));
    once = λ p q e f same. same_siblings C D p.storage q.storage (nodes p e) (nodes q f) ∙ L.once p q (was p e) (was q f) same;
    excess_is_good = excess;
  }

-- the replicas stay
same_placed : (C D : Cluster) (H G : Holdings) → G.replicas ≡ H.replicas → ((s : ℕ) → contains_key C.storages s ≡ true → node_of D s ≡ node_of C s) → IsPlaced C H → IsPlaced D G
same_placed C D H G same stays L =
    let was : (p : ReplicaId) → is_some (get G.replicas p) ≡ true → is_some (get H.replicas p) ≡ true = λ p e. sym (ap (λ m. contains_key m p) same) ∙ e in
    placed_among C D H G L was (λ p e. stays p.storage (L.stored p (was p e))) (λ p m e. L.excess_is_good p m (sym (ap (λ x. get x p) same) ∙ e))

-- the replicas on storages that stay
without_placed : (C D : Cluster) (H : Holdings) (gone : ℕ → Bool) → ((s : ℕ) → gone s ≡ false → node_of D s ≡ node_of C s) → IsPlaced C H → IsPlaced D (without_storages H gone)
unfolding without_storages
without_placed C D H gone stays L =
    let test : ReplicaId → Marks → Bool = λ q _. not (gone q.storage) in
    placed_among C D H (without_storages H gone) L
    (λ p e. let x = there (get (keep H.replicas test) p) e in is_there (get H.replicas p) x.0 (get_kept H.replicas test p x.0 x.1).0)
    (λ p e. let x = there (get (keep H.replicas test) p) e in stays p.storage (not-true (gone p.storage) (get_kept H.replicas test p x.0 x.1).1))
    (λ p m e. L.excess_is_good p m (get_kept H.replicas test p m e).0)

-- Nodes and storages that come and go.

after_registration : (C : Cluster) (H : Holdings) (n rack : ℕ) (ss : List ℕ) → IsRegistrable C n ss → IsPlaced C H → IsPlaced (register C n rack ss) H
unfolding register
after_registration C H n rack ss may L =
    same_placed C (register C n rack ss) H H refl (λ s known.
    same_node C (register C n rack ss) s (get_insert_all_elsewhere C.storages (fresh n ss) s
    (each_mapped (λ e. eq_by_cmp nat_cmp s e.0 ≡ false) (λ t. (t, record { node = n; remaining = 0 })) ss
    (each_then (λ t. knows_storage C t ≡ false) (λ t. eq_by_cmp nat_cmp s t ≡ false) ss (none_passes (knows_storage C) ss may.unknown)
    (λ t unknown. other_key C s t known unknown (eq_by_cmp nat_cmp s t) refl))))) L

after_death : (C : Cluster) (H : Holdings) (n : ℕ) → IsPlaced C H → IsPlaced (without_node C n) (without_storages H (has_storage C n))
unfolding without_node
after_death C H n L =
    without_placed C (without_node C n) H (has_storage C n)
    (λ s e. same_node C (without_node C n) s (get-keep_there C.storages (λ t. not (has_storage C n t)) s (not_from_false (has_storage C n s) e))) L

after_failure : (C : Cluster) (H : Holdings) (s : ℕ) → IsPlaced C H → IsPlaced (without_storage C s) (without_storages H (λ t. t == s))
unfolding without_storage
after_failure C H s L =
    without_placed C (without_storage C s) H (λ t. t == s)
    (λ t e. same_node C (without_storage C s) t (get-remove C.storages s t ∙ not_taken (eq_by_cmp nat_cmp t s) (get C.storages t) (number_tie t s ∙ e))) L

after_heartbeat : (C : Cluster) (H : Holdings) (rs : List Remaining) → IsPlaced C H → IsPlaced (heartbeat C rs) H
unfolding heartbeat node_of
after_heartbeat C H rs L = same_placed C (heartbeat C rs) H H refl (λ s _. same_nodes C.storages rs s) L

after_drain : (C : Cluster) (H : Holdings) (n : ℕ) → IsPlaced C H → IsPlaced (drain C n) (begin_drain C H n)
unfolding drain node_of
after_drain C H n L = same_placed C (drain C n) H (begin_drain C H n) (drained_replicas C H n) (λ _ _. refl) L

after_undrain : (C : Cluster) (H : Holdings) (n : ℕ) → IsPlaced C H → IsPlaced (undrain C n) H
unfolding undrain node_of
after_undrain C H n L = same_placed C (undrain C n) H H refl (λ _ _. refl) L

-- Marks that change.

module _ (C : Cluster) (H G : Holdings) (f : ReplicaId → Marks → Marks) (revised : G.replicas ≡ revise H.replicas f) (L : IsPlaced C H)
    (good : (q : ReplicaId) (m : Marks) → get H.replicas q ≡ Some m → IsTrue (f q m).excess → IsTrue (is_good (f q m).tag)) where
  placed_revised : IsPlaced C G
  placed_revised =
      placed_among C C H G L (λ q e. sym (known_revised H.replicas f q) ∙ sym (ap (λ m. contains_key m q) revised) ∙ e) (λ _ _. refl)
      (λ q m e. let was = get_revised H.replicas f q m (sym (ap (λ x. get x q) revised) ∙ e) in subst (λ (n : Marks). IsTrue n.excess → IsTrue (is_good n.tag)) was.2 (good q was.0 was.1))

-- marks that change only if a test passes, and are then not in excess
plain_where : (t : Bool) (f : Marks → Marks) (m : Marks) → (f m).excess ≡ false → (IsTrue m.excess → IsTrue (is_good m.tag)) → IsTrue (if t then f m else m).excess → IsTrue (is_good (if t then f m else m).tag)
plain_where true f m none good e = absurd (false≢true (sym none ∙ e))
plain_where false f m none good e = good e

-- Replicas that come.

module _ (C : Cluster) (H G : Holdings) (s : ℕ) (named : ℕ → Bool) (stays : ReplicaId → Bool) (L : IsPlaced C H) (known : contains_key C.storages s ≡ true)
    (apart : (q : ReplicaId) → stays q ≡ true → named q.block ≡ true → are_siblings C s q.storage ≡ false) (from : Holds (λ q m. IsKept H stays q m ⊎ IsPut H s named q m) G.replicas) where
  on_known : (q : ReplicaId) (m : Marks) → IsKept H stays q m ⊎ IsPut H s named q m → contains_key C.storages q.storage ≡ true
  on_known q m (inl was) = L.stored q (is_there (get H.replicas q) m was.0)
  on_known q m (inr put) = ap (contains_key C.storages) put.0 ∙ known

  alone : (p q : ReplicaId) (m n : Marks) → IsKept H stays p m ⊎ IsPut H s named p m → IsKept H stays q n ⊎ IsPut H s named q n → p.block ≡ q.block → are_siblings C p.storage q.storage ≡ false
  alone p q m n (inl was) (inl is) same = L.once p q (is_there (get H.replicas p) m was.0) (is_there (get H.replicas q) n is.0) same
  alone p q m n (inl was) (inr put) same = ap (are_siblings C p.storage) put.0 ∙ siblings_turned C p.storage s ∙ apart p was.1 (ap named same ∙ put.1)
  alone p q m n (inr put) (inl was) same = ap (λ t. are_siblings C t q.storage) put.0 ∙ apart q was.1 (sym (ap named same) ∙ put.1)
  alone p q m n (inr put) (inr too) same = (λ i. are_siblings C (put.0 i) (too.0 i)) ∙ no_sibling_itself C s

  good_in_excess : (q : ReplicaId) (m : Marks) → IsKept H stays q m ⊎ IsPut H s named q m → IsTrue m.excess → IsTrue (is_good m.tag)
  good_in_excess q m (inl was) e = L.excess_is_good q m was.0 e
  good_in_excess q m (inr put) e = ap (λ n. is_good n.tag) put.3 ∙ entered_excess H q put.2 (sym (ap (λ n. n.excess) put.3) ∙ e)

  placed_entered : IsPlaced C G
  placed_entered = record {
    stored = λ q e. let m = there (get G.replicas q) e in on_known q m.0 (from q m.0 m.1);
    once = λ p q e f same. let m = there (get G.replicas p) e in let n = there (get G.replicas q) f in alone p q m.0 n.0 (from p m.0 m.1) (from q n.0 n.1) same;
    excess_is_good = λ q m e. good_in_excess q m (from q m e);
  }

enter_apart : (C : Cluster) (p q : ReplicaId) → not (replaces C p q) ≡ true → (q.block == p.block) ≡ true → are_siblings C p.storage q.storage ≡ false
unfolding replaces
enter_apart C p q e h = sibling_fails (q.block == p.block) (are_siblings C p.storage q.storage) e h

enter_keeps_placed : (C : Cluster) (P : Holdings) (p : ReplicaId) (stamp : Stamp) → contains_key C.storages p.storage ≡ true → IsPlaced C P → IsPlaced C (enter C P p stamp)
enter_keeps_placed C P p stamp known L =
    placed_entered C P (enter C P p stamp) p.storage (λ b. b == p.block) (λ q. not (replaces C p q)) L known (enter_apart C p) (enter_origin C P p stamp)

report_apart : (C : Cluster) (s : ℕ) (ts : List ReportedBlock) (q : ReplicaId) → not (leaves_by_report C s ts q) ≡ true → is_named ts q.block ≡ true → are_siblings C s q.storage ≡ false
unfolding leaves_by_report
report_apart C s ts q e h = named_stays (q.storage == s) (is_named ts q.block) (are_siblings C s q.storage) (λ here. ap (are_siblings C s) (eqb-true q.storage s here) ∙ no_sibling_itself C s) e h

pub report_keeps_placed : law.report_keeps_placed
report_keeps_placed C P s ts known L = placed_entered C P (report C P s ts) s (is_named ts) (stays_by C P s ts) L known (report_apart C s ts) (report_origin C P s ts)

-- Events.

storage_known : (C : Cluster) (s : ℕ) (cs : List (Refusal × Bool)) → first_of ((UnknownStorage, not (knows_storage C s)) ∷ cs) ≡ None → contains_key C.storages s ≡ true
unfolding knows_storage
storage_known C s cs e = not-false (knows_storage C s) (first_fails UnknownStorage (not (knows_storage C s)) cs e).0

either : (C : Cluster) (P : Holdings) (t : Bool) (G : Holdings) → IsPlaced C P → IsPlaced C G → IsPlaced C (if t then G else P)
either C P true G L h = h
either C P false G L h = L

pub event_keeps_placed : law.event_keeps_placed
unfolding change_cluster change_holdings cluster_checks add_block delete_block set_replication restamp without_pending change_marks_of_block make_bad revise_at remove_replica
event_keeps_placed C P (Register n rack ss) index shards lawful e L = after_registration C P n rack ss (registrable C n rack ss e) L
event_keeps_placed C P (Dead n) index shards lawful e L = after_death C P n L
event_keeps_placed C P (StorageFailed t) index shards lawful e L = after_failure C P t L
event_keeps_placed C P (Heartbeat n rs) index shards lawful e L = after_heartbeat C P rs L
event_keeps_placed C P (Drain n) index shards lawful e L = after_drain C P n L
event_keeps_placed C P (Undrain n) index shards lawful e L = after_undrain C P n L
event_keeps_placed C P (AddBlock b stamp repl) index shards lawful e L = either C P (shard_of b shards == index) (add_block P b stamp repl) L (same_placed C C P (add_block P b stamp repl) refl (λ _ _. refl) L)
event_keeps_placed C P (DeleteBlock b) index shards lawful e L =
    either C P (shard_of b shards == index) (delete_block P b) L
    (placed_revised C P (delete_block P b) (λ q m. if q.block == b then as_stray m else m) refl L (λ q m here. plain_where (q.block == b) as_stray m refl (L.excess_is_good q m here)))
event_keeps_placed C P (SetReplication b repl) index shards lawful e L =
    either C P (shard_of b shards == index) (set_replication P b repl) L (same_placed C C P (set_replication P b repl) refl (λ _ _. refl) L)
event_keeps_placed C P (Restamp b stamp) index shards lawful e L =
    either C P (shard_of b shards == index) (restamp P b stamp) L
    (placed_revised C P (restamp P b stamp) (λ q m. if q.block == b then as_restamped m else m) refl L (λ q m here. plain_where (q.block == b) as_restamped m refl (L.excess_is_good q m here)))
event_keeps_placed C P (Received s b stamp) index shards lawful e L =
    either C P (shard_of b shards == index) (enter C P (replica_at b s) stamp) L (enter_keeps_placed C P (replica_at b s) stamp (storage_known C s [] e) L)
event_keeps_placed C P (Deleted s b) index shards lawful e L =
    either C P (shard_of b shards == index) (remove_replica P (replica_at b s)) L
    (placed_among C C P (remove_replica P (replica_at b s)) L
    (λ q here. let x = there (get (remove_replica P (replica_at b s)).replicas q) here in is_there (get P.replicas q) x.0 (get_removed P.replicas (replica_at b s) q x.0 x.1).1) (λ _ _. refl)
    (λ q m here. L.excess_is_good q m (get_removed P.replicas (replica_at b s) q m here).1))
event_keeps_placed C P (Corrupt s b) index shards lawful e L =
    either C P (shard_of b shards == index) (make_bad P (replica_at b s)) L
    (placed_revised C P (make_bad P (replica_at b s)) (λ q m. if eq_by_cmp replica_cmp q (replica_at b s) then as_bad m else m) refl L
    (λ q m here. plain_where (eq_by_cmp replica_cmp q (replica_at b s)) as_bad m refl (L.excess_is_good q m here)))
event_keeps_placed C P (FullReport s es) index shards lawful e L = report_keeps_placed C P s (reported_of index shards (expanded es)) (storage_known C s ((TooMany, is_too_long es) ∷ []) e) L

-- Rounds.

cleared_good : (b : Bool) (m : Marks) → (IsTrue m.excess → IsTrue (is_good m.tag)) → IsTrue (if b then m else record m { excess = false }).excess → IsTrue (is_good (if b then m else record m { excess = false }).tag)
cleared_good true m good e = good e
cleared_good false m good e = absurd (false≢true e)

marked_good : (b : Bool) (m : Marks) → (b ≡ true → IsTrue (is_good m.tag)) → (IsTrue m.excess → IsTrue (is_good m.tag)) → IsTrue (if b then record m { excess = true } else m).excess → IsTrue (is_good (if b then record m { excess = true } else m).tag)
marked_good true m usable good e = usable refl
marked_good false m usable good e = good e

ordered_good : (b : Bool) (m : Marks) → (IsTrue m.excess → IsTrue (is_good m.tag)) → IsTrue (if b then record m { ordered = true } else m).excess → IsTrue (is_good (if b then record m { ordered = true } else m).tag)
ordered_good true m good e = good e
ordered_good false m good e = good e

expired_placed : (C : Cluster) (pend r : ℕ) (H : Holdings) → IsPlaced C H → IsPlaced C (without_expired pend r H)
unfolding without_expired
expired_placed C pend r H L = same_placed C C H (without_expired pend r H) refl (λ _ _. refl) L

cleared_placed : (C : Cluster) (H : Holdings) → IsPlaced C H → IsPlaced C (without_unordered_excess H)
unfolding without_unordered_excess
cleared_placed C H L = placed_revised C H (without_unordered_excess H) (λ _ m. if m.ordered then m else record m { excess = false }) refl L (λ q m here. cleared_good m.ordered m (L.excess_is_good q m here))

marked_placed : (C : Cluster) (H : Holdings) → IsPlaced C H → IsPlaced C (with_surplus_marked C H)
unfolding with_surplus_marked
marked_placed C H L =
    placed_revised C H (with_surplus_marked C H) (λ q m. if has (excess_in C H q.block) q.storage then record m { excess = true } else m) refl L
    (λ q m here. marked_good (has (excess_in C H q.block) q.storage) m (λ h. (and_parts (is_good m.tag) (not m.excess) (in_excess_usable C H q m here h)).0) (L.excess_is_good q m here))

pub round_keeps_placed : law.round_keeps_placed
unfolding end_round holdings_at_choice
round_keeps_placed C pend r P index shards ts ds L =
    let G : Holdings = holdings_at_choice C pend r P in
    let started : IsPlaced C G = marked_placed C (without_unordered_excess (without_expired pend r P)) (cleared_placed C (without_expired pend r P) (expired_placed C pend r P L)) in
    placed_revised C G (end_round r G (own_transfers index shards ts) (own_deletes index shards ds)) (λ q m. if is_commanded (own_deletes index shards ds) q then record m { ordered = true } else m) refl started
    (λ q m here. ordered_good (is_commanded (own_deletes index shards ds) q) m (started.excess_is_good q m here))
