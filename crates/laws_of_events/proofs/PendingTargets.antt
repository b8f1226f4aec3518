-- The target of a pending transfer has no replica of the block yet.
use Rattle.std.proofs.Common.{◌≡◌, ℕ, ◌*◌, Bool, true, false, cond, not, ◌&&◌, ◌||◌, Option, Some, None, is_some, List, [], ◌∷◌, ◌++◌, map, filter, length, option_to_list, refl, sym, ap, subst, ◌∙◌, ◌⊎◌, inl, inr, eq-eqb, eqb-true, true≢false}
use Rattle.std.specs.Prelude.{◌==◌, nat_le}
use Rattle.std.specs.Option.{option_map_or}
use Rattle.std.specs.List.{list_any}
use Rattle.std.proofs.lemmas.Bool.{and_parts, and_from, not-true}
use Rattle.bm_base.specs.declared.replica.ReplicaId.{ReplicaId}
use Rattle.bm_base.specs.declared.replica.Marks.{Marks}
use Rattle.bm_base.specs.declared.replica.Stamp.{Stamp}
use Rattle.bm_base.specs.declared.replica.Level.{Level}
use Rattle.bm_base.specs.declared.commands.Transfer.{Transfer}
use Rattle.bm_base.specs.declared.commands.Delete.{Delete}
use Rattle.bm_base.specs.declared.config.Config.{Config}
use Rattle.bm_base.specs.declared.limits.Limits.{Limits}
use Rattle.bm_base.specs.declared.event.Entry.{Entry}
use Rattle.bm_base.specs.declared.event.Event.{Event}
use Rattle.bm_base.specs.declared.event.Event.TheVariants.{Register, Dead, StorageFailed, Heartbeat, Drain, Undrain, AddBlock, DeleteBlock, SetReplication, Restamp, Received, Deleted, Corrupt, FullReport}
use Rattle.bm_base.specs.declared.refusal.Refusal.{Refusal}
use Rattle.bm_base.specs.declared.call.Call.{Call}
use Rattle.bm_base.specs.declared.call.Call.TheVariants as call
use Rattle.bm_base.specs.declared.call.Answer.{Answer}
use Rattle.bm_base.specs.Words.{Map, get, keep, revise, revise_at, remove, contains_key, entries, keys, len, RoundLimits, Cluster, Holdings, State, by_replica, replica_at, first_state_within, empty_holdings, node_of, has_storage, sources_of, storages_where, expanded, change_holdings, without_storages, add_block, delete_block, set_replication, restamp, make_bad, remove_replica, without_pending, change_marks_of_block, enter, report, replaces, is_named, without_expired, without_unordered_excess, with_surplus_marked, state_after_expiry, state_at_choice, RequestedCopy, pending_targets, targets_of, holders_of, excluded_for, is_excluded, is_target, target_cmp, least_target_by, least_target, scheduled_to, least_source, transfer_for, transfers_from, transfers, wishes, deletes, end_round, whole_round, refusal_of, round_refusal, node_refusal, storage_refusal, block_refusal, step, refused_or, after_event, state_after}
use Rattle.bm_base.proofs.MapLaws.{get-empty}
use Rattle.bm_base.proofs.Options.{there, is_there}
use Rattle.bm_base.proofs.ForEach.{Each, each_both, each_filtered, each_passing, each_appended, each_optional, least_is_one}
use Rattle.bm_base.proofs.MapEntries.{get_kept, get_removed, known_revised, each_key, passes_entry}
use Rattle.bm_base.proofs.Clusters.{some_node}
use Rattle.bm_parts.proofs.RemainingHoldings.{drained_replicas}
use Rattle.bm_parts.proofs.ChosenCopies.{made_of, unless}
use Rattle.laws_of_states.proofs.LawfulRounds.{all_pending}
use Rattle.bm_parts.proofs.ReportedReplicas.{IsKept, IsPut, enter_origin, enter_pending, report_origin, report_pending, stays_by}
use Rattle.laws_of_events.proofs.ReportLaws.{held_report, held_received}
use Rattle.laws_of_events.proofs.BlockChanges.{transfers_reported, transfer_received}
use Rattle.laws_of_events.proofs.ReportedReplicas.{named_numbers}
use Rattle.laws_of_events.proofs.NoTransferToDraining.{sent_before}
use Rattle.laws_of_events.specs.LawfulForEver as law

-- Lists with a test.

any_appended : {X : Type 0} (p : X → Bool) (xs ys : List X) → list_any p xs ≡ true → list_any p (xs ++ ys) ≡ true
any_appended p [] ys h = cc
any_appended p (x ∷ xs) ys h =
    elim (p x) as (λ b. (b || list_any p xs) ≡ true → (b || list_any p (xs ++ ys)) ≡ true) [ true ↦ λ _. refl | false ↦ λ h. any_appended p xs ys h ] h

any_head : {X Y : Type 0} (g : Y → Bool) (f : X → Y) (b : Bool) (x : X) (xs : List X) → ((b && g (f x)) || list_any g (map f xs)) ≡ true → list_any g (map f (cond b (x ∷ xs) xs)) ≡ true
any_head g f true x xs h = h
any_head g f false x xs h = h

any_rest : (a b c : Bool) → (a || b) ≡ true → (b ≡ true → c ≡ true) → (a || c) ≡ true
any_rest true b c h f = refl
any_rest false b c h f = f h

any_chosen : {X Y : Type 0} (g : Y → Bool) (f : X → Y) (p : X → Bool) (xs : List X) → list_any (λ x. p x && g (f x)) xs ≡ true → list_any g (map f (filter p xs)) ≡ true
any_chosen g f p [] h = h
any_chosen g f p (x ∷ xs) h =
    any_head g f (p x) x (filter p xs) (any_rest (p x && g (f x)) (list_any (λ x. p x && g (f x)) xs) (list_any g (map f (filter p xs))) h (any_chosen g f p xs))

-- A target's node has no replica of the block.

-- whether storage s is on the node of t
abbrev on_node : Cluster → ℕ → ℕ → Bool
on_node C s t = option_map_or (λ n. has_storage C n s) (node_of C t) false

on_own_by : (C : Cluster) (s : ℕ) (z : Option ℕ) → node_of C s ≡ z → is_some z ≡ true → option_map_or (λ n. has_storage C n s) z false ≡ true
unfolding has_storage
on_own_by C s None e h = cc
on_own_by C s (Some n) e h = ap (λ z. option_map_or (λ m. m == n) z false) e ∙ eq-eqb n n refl

on_own : (C : Cluster) (s : ℕ) → contains_key C.storages s ≡ true → on_node C s s ≡ true
on_own C s known = on_own_by C s (node_of C s) refl (some_node C s ∙ known)

held_is_excluded : (C : Cluster) (H : Holdings) (chosen : List Transfer) (b s : ℕ) → contains_key C.storages s ≡ true → (m : Marks) → get H.replicas (replica_at b s) ≡ Some m → is_excluded C (excluded_for H chosen b) s ≡ true
unfolding is_excluded excluded_for storages_where
held_is_excluded C H chosen b s known m e =
    any_appended (on_node C s) (map (λ e. e.0.storage) (filter (λ e. (e.0.block == b) && true) (entries H.replicas)) ++ pending_targets H b) (targets_of chosen b)
    (any_appended (on_node C s) (map (λ e. e.0.storage) (filter (λ e. (e.0.block == b) && true) (entries H.replicas))) (pending_targets H b)
    (any_chosen (on_node C s) (λ e. e.0.storage) (λ e. (e.0.block == b) && true) (entries H.replicas)
    (passes_entry H.replicas (λ e. ((e.0.block == b) && true) && on_node C s e.0.storage) (replica_at b s) m e
    (and_from ((b == b) && true) (on_node C s s) (and_from (b == b) true (eq-eqb b b refl) refl) (on_own C s known)))))

abbrev IsAbsent : Holdings → Transfer → Type 0
IsAbsent H t = get H.replicas (replica_at t.block t.target) ≡ None

not_excluded : (C : Cluster) (sent : ℕ → ℕ) (urgency : Level) (holders excluded : List ℕ) (l s : ℕ) → is_target C sent (record { urgency = urgency; holders = holders; excluded = excluded; len = l }) s ≡ true → is_excluded C excluded s ≡ false
unfolding is_target
not_excluded C sent urgency holders excluded l s h = not-true (is_excluded C excluded s) (and_parts _ _ (and_parts _ _ h).0).1

target_free : (C : Cluster) (H : Holdings) (chosen : List Transfer) (urgency : Level) (holders : List ℕ) (b l t : ℕ) → least_target C chosen (record { urgency = urgency; holders = holders; excluded = excluded_for H chosen b; len = l }) ≡ Some t → get H.replicas (replica_at b t) ≡ None
unfolding least_target least_target_by
target_free C H chosen urgency holders b l t e =
    let test : ℕ → Bool = is_target C (scheduled_to chosen) (record { urgency = urgency; holders = holders; excluded = excluded_for H chosen b; len = l }) in
    let found : (test t ≡ true) × (contains_key C.storages t ≡ true) =
    least_is_one (λ s. (test s ≡ true) × (contains_key C.storages s ≡ true)) (target_cmp C (scheduled_to chosen) holders) (filter test (keys C.storages))
    (each_both (λ s. test s ≡ true) (λ s. contains_key C.storages s ≡ true) (filter test (keys C.storages)) (each_passing test (keys C.storages)) (each_filtered (λ s. contains_key C.storages s ≡ true) test (keys C.storages) (each_key C.storages))) t e in
    absent_by (get H.replicas (replica_at b t)) refl (not_excluded C (scheduled_to chosen) urgency holders (excluded_for H chosen b) l t found.0) (λ m is. held_is_excluded C H chosen b t found.1 m is)
  where
    absent_by : (z : Option Marks) → get H.replicas (replica_at b t) ≡ z → is_excluded C (excluded_for H chosen b) t ≡ false → ((m : Marks) → get H.replicas (replica_at b t) ≡ Some m → is_excluded C (excluded_for H chosen b) t ≡ true) → z ≡ None
    absent_by None is free held = refl
    absent_by (Some m) is free held = absurd (true≢false (sym (held m is) ∙ free))

transfer_absent : (limits : RoundLimits) (C : Cluster) (H : Holdings) (chosen : List Transfer) (w : RequestedCopy) (t : Transfer) → transfer_for limits C H chosen w ≡ Some t → IsAbsent H t
unfolding transfer_for
transfer_absent limits C H chosen w t e =
    let of_it = made_of w.block (get H.blocks w.block) (least_source C chosen w.urgency (sources_of C H w.block)) (λ i. least_target C chosen (record { urgency = w.urgency; holders = holders_of C H chosen w.block; excluded = excluded_for H chosen w.block; len = i.stamp.len })) t
    (unless (nat_le (limits.work * len C.nodes) (length chosen)) _ t e) in
    subst (λ b. get H.replicas (replica_at b t.target) ≡ None) of_it.3 (target_free C H chosen w.urgency (holders_of C H chosen w.block) w.block of_it.0.stamp.len t.target of_it.2)

absent_from : (limits : RoundLimits) (C : Cluster) (H : Holdings) (chosen : List Transfer) (ws : List RequestedCopy) → Each (IsAbsent H) chosen → Each (IsAbsent H) (transfers_from limits C H chosen ws)
absent_from limits C H chosen [] h = h
absent_from limits C H chosen (w ∷ ws) h =
    absent_from limits C H (chosen ++ option_to_list (transfer_for limits C H chosen w)) ws
    (each_appended (IsAbsent H) chosen (option_to_list (transfer_for limits C H chosen w)) h (each_optional (IsAbsent H) (transfer_for limits C H chosen w) (transfer_absent limits C H chosen w)))

each_absent : (limits : RoundLimits) (C : Cluster) (H : Holdings) → Each (IsAbsent H) (transfers limits C H)
unfolding transfers
each_absent limits C H = absent_from limits C H [] (wishes C H) tt

-- Holdings in which the target of each pending transfer has no replica of the block.

abbrev Coming : Holdings → Type 0
Coming H = (p : ReplicaId) → is_some (get H.pending p) ≡ true → get H.replicas p ≡ None

-- a key that is absent from the larger of two maps is absent from the smaller
absent : {X : Type 0} (z w : Option X) → (is_some z ≡ true → is_some w ≡ true) → w ≡ None → z ≡ None
absent None w f e = refl
absent (Some x) w f e = absurd (true≢false (sym (f refl) ∙ ap is_some e))

-- the property stays if no replica and no transfer is added
fewer : (H G : Holdings) → Coming H → ((p : ReplicaId) → is_some (get G.replicas p) ≡ true → is_some (get H.replicas p) ≡ true) → ((p : ReplicaId) → is_some (get G.pending p) ≡ true → is_some (get H.pending p) ≡ true) → Coming G
fewer H G C r t p e = absent (get G.replicas p) (get H.replicas p) (r p) (C p (t p e))

kept_before : {X : Type 0} (m : Map by_replica X) (f : ReplicaId → X → Bool) (p : ReplicaId) → is_some (get (keep m f) p) ≡ true → is_some (get m p) ≡ true
kept_before m f p e = let x = there (get (keep m f) p) e in is_there (get m p) x.0 (get_kept m f p x.0 x.1).0

revised_before : (m : Map by_replica Marks) (f : ReplicaId → Marks → Marks) (p : ReplicaId) → is_some (get (revise m f) p) ≡ true → is_some (get m p) ≡ true
revised_before m f p e = sym (known_revised m f p) ∙ e

removed_before : (m : Map by_replica Marks) (k p : ReplicaId) → is_some (get (remove m k) p) ≡ true → is_some (get m p) ≡ true
removed_before m k p e = let x = there (get (remove m k) p) e in is_there (get m p) x.0 (get_removed m k p x.0 x.1).1

none_there : (z : Option Marks) → ((m : Marks) → z ≡ Some m → ⊥) → z ≡ None
none_there None f = refl
none_there (Some m) f = absurd (f m refl)

clash : {X : Type 0} (z : Option X) (x : X) → z ≡ None → z ≡ Some x → ⊥
clash z x e f = cc

-- Each event.

received_coming : (M : State) (s b : ℕ) (stamp : Stamp) → Coming M.holdings → Coming (enter M.cluster M.holdings (replica_at b s) stamp)
received_coming M s b stamp C p is =
    let G = enter M.cluster M.holdings (replica_at b s) stamp in
    let sent : (r : ℕ) × (get G.pending p ≡ Some r) = there (get G.pending p) is in
    none_there (get G.replicas p) (λ m e. by_origin sent (enter_origin M.cluster M.holdings (replica_at b s) stamp p m e))
  where
    by_origin : {m : Marks} → (r : ℕ) × (get (enter M.cluster M.holdings (replica_at b s) stamp).pending p ≡ Some r)
        → IsKept M.holdings (λ q. not (replaces M.cluster (replica_at b s) q)) p m ⊎ IsPut M.holdings s (λ c. c == b) p m → ⊥
    by_origin sent (inl kept) = clash (get M.holdings.replicas p) _ (C p (is_there (get M.holdings.pending p) sent.0 (enter_pending M.cluster M.holdings (replica_at b s) stamp p sent.0 sent.1))) kept.0
    by_origin sent (inr put) =
        let key : p ≡ replica_at b s = λ i. replica_at (eqb-true p.block b put.1 i) (put.0 i) in
        clash (get (enter M.cluster M.holdings (replica_at b s) stamp).pending p) sent.0
        (ap (get (enter M.cluster M.holdings (replica_at b s) stamp).pending) key ∙ sym (ap (λ G. get G.pending (replica_at b s)) (held_received M s b stamp)) ∙ (transfer_received M s b stamp).0) sent.1

reported_coming : (M : State) (s : ℕ) (es : List Entry) → Coming M.holdings → Coming (report M.cluster M.holdings s (expanded es))
reported_coming M s es C p is =
    let G = report M.cluster M.holdings s (expanded es) in
    let sent : (r : ℕ) × (get G.pending p ≡ Some r) = there (get G.pending p) is in
    none_there (get G.replicas p) (λ m e. by_origin sent (report_origin M.cluster M.holdings s (expanded es) p m e))
  where
    by_origin : {m : Marks} → (r : ℕ) × (get (report M.cluster M.holdings s (expanded es)).pending p ≡ Some r) → IsKept M.holdings (stays_by M.cluster M.holdings s (expanded es)) p m ⊎ IsPut M.holdings s (is_named (expanded es)) p m → ⊥
    by_origin sent (inl kept) = clash (get M.holdings.replicas p) _ (C p (is_there (get M.holdings.pending p) sent.0 (report_pending M.cluster M.holdings s (expanded es) p sent.0 sent.1))) kept.0
    by_origin sent (inr put) =
        clash (get (report M.cluster M.holdings s (expanded es)).pending p) sent.0
        (ap (λ t. get (report M.cluster M.holdings s (expanded es)).pending (replica_at p.block t)) put.0 ∙ sym (ap (λ G. get G.pending (replica_at p.block s)) (held_report M s es))
        ∙ (transfers_reported M s es).0 p.block (sym (named_numbers (expanded es) p.block) ∙ put.1)) sent.1

event_coming : (M : State) (e : Event) → Coming M.holdings → Coming (change_holdings M.cluster M.holdings e)
unfolding change_holdings without_storages add_block delete_block set_replication restamp make_bad remove_replica without_pending change_marks_of_block revise_at
event_coming M (Received s b stamp) C = received_coming M s b stamp C
event_coming M (FullReport s es) C = reported_coming M s es C
event_coming M (Dead n) C = fewer M.holdings (change_holdings M.cluster M.holdings (Dead n)) C (kept_before M.holdings.replicas _) (sent_before M.cluster M.holdings (Dead n))
event_coming M (StorageFailed s) C = fewer M.holdings (change_holdings M.cluster M.holdings (StorageFailed s)) C (kept_before M.holdings.replicas _) (sent_before M.cluster M.holdings (StorageFailed s))
event_coming M (DeleteBlock b) C = fewer M.holdings (change_holdings M.cluster M.holdings (DeleteBlock b)) C (revised_before M.holdings.replicas _) (sent_before M.cluster M.holdings (DeleteBlock b))
event_coming M (Restamp b stamp) C = fewer M.holdings (change_holdings M.cluster M.holdings (Restamp b stamp)) C (revised_before M.holdings.replicas _) (sent_before M.cluster M.holdings (Restamp b stamp))
event_coming M (Corrupt s b) C = fewer M.holdings (change_holdings M.cluster M.holdings (Corrupt s b)) C (revised_before M.holdings.replicas _) (sent_before M.cluster M.holdings (Corrupt s b))
event_coming M (Deleted s b) C = fewer M.holdings (change_holdings M.cluster M.holdings (Deleted s b)) C (removed_before M.holdings.replicas (replica_at b s)) (λ _ is. is)
event_coming M (Register n rack ss) C = C
event_coming M (Heartbeat n rs) C = C
event_coming M (Drain n) C =
    fewer M.holdings (change_holdings M.cluster M.holdings (Drain n)) C (λ p is. ap (λ m. contains_key m p) (sym (drained_replicas M.cluster M.holdings n)) ∙ is) (sent_before M.cluster M.holdings (Drain n))
event_coming M (Undrain n) C = C
event_coming M (AddBlock b stamp repl) C = C
event_coming M (SetReplication b repl) C = C

-- A round.

started_coming : (M : State) → Coming M.holdings → Coming (state_at_choice M).holdings
unfolding state_at_choice state_after_expiry without_expired without_unordered_excess with_surplus_marked
started_coming M C =
    fewer M.holdings (state_at_choice M).holdings C (λ p is. revised_before M.holdings.replicas _ p (revised_before (without_unordered_excess (state_after_expiry M).holdings).replicas _ p is)) (kept_before M.holdings.pending _)

finished_before : (r : ℕ) (H : Holdings) (ts : List Transfer) (ds : List Delete) (p : ReplicaId) → is_some (get (end_round r H ts ds).replicas p) ≡ true → is_some (get H.replicas p) ≡ true
unfolding end_round
finished_before r H ts ds p is = revised_before H.replicas _ p is

finished_coming : (C : Cluster) (r : ℕ) (H : Holdings) (ts : List Transfer) (ds : List Delete) → Coming H → Each (IsAbsent H) ts → Coming (end_round r H ts ds)
finished_coming C r H ts ds coming each p is =
    let sent = there (get (end_round r H ts ds).pending p) is in
    let absent_before = all_pending C r H ts ds (λ q _. get H.replicas q ≡ None) (λ q t e. coming q (is_there (get H.pending q) t e)) each p sent.0 sent.1 in
    absent (get (end_round r H ts ds).replicas p) (get H.replicas p) (finished_before r H ts ds p) absent_before

round_coming : (M : State) → Coming M.holdings → Coming (whole_round M).1.holdings
unfolding whole_round
round_coming M C =
    let N = state_at_choice M in
    let ts = transfers N.limits N.cluster N.holdings in
    finished_coming N.cluster N.round N.holdings ts (deletes N.limits N.cluster N.holdings) (started_coming M C) (each_absent N.limits N.cluster N.holdings)

-- All calls.

by_refusal : (M : State) (o : Option Refusal) (next : Answer × State) → Coming M.holdings → Coming next.1.holdings → Coming (refused_or M o next).1.holdings
by_refusal M None next C D = D
by_refusal M (Some r) next C D = C

step_coming : (M : State) (k : Call) → Coming M.holdings → Coming (step M k).1.holdings
unfolding step after_event
step_coming M (call.Apply e) C = by_refusal M (refusal_of M e) _ C (event_coming M e C)
step_coming M call.Round C = by_refusal M (round_refusal M) _ C (round_coming M C)
step_coming M call.Replicas C = C
step_coming M call.Corrupt C = C
step_coming M call.Excess C = C
step_coming M call.Missing C = C
step_coming M (call.BlocksOn s) C = by_refusal M (storage_refusal M.cluster s) _ C C
step_coming M (call.Places b) C = by_refusal M (block_refusal M.holdings b) _ C C
step_coming M (call.LevelOf b) C = by_refusal M (block_refusal M.holdings b) _ C C
step_coming M (call.Retired n) C = by_refusal M (node_refusal M.cluster n) _ C C
step_coming M call.Calls C = C
step_coming M call.Rounds C = C

coming_after : (M : State) (ks : List Call) → Coming M.holdings → Coming (state_after M ks).holdings
coming_after M [] C = C
coming_after M (k ∷ ks) C = coming_after (step M k).1 ks (step_coming M k C)

first_coming : (l : Limits) (c : Config) → Coming (first_state_within l c).holdings
unfolding empty_holdings
first_coming l c p is = get-empty by_replica p

pub still_to_come : law.transfers_are_still_to_come
still_to_come l c ks = coming_after (first_state_within l c) ks (first_coming l c)
