-- No pending transfer goes to a node that drains.
use Rattle.std.proofs.Common.{◌≡◌, ◌≢◌, ℕ, ◌*◌, Bool, true, false, not, Option, Some, None, is_some, List, [], ◌∷◌, ◌++◌, filter, length, option_to_list, refl, sym, ap, ◌∙◌, true≢false, eq-eqb}
use Rattle.std.specs.Prelude.{◌==◌, nat_le, if◌then◌else◌, option_map}
use Rattle.std.specs.Option.{option_map_or}
use Rattle.std.proofs.lemmas.Bool.{and_parts, not-true}
use Rattle.std.proofs.lemmas.Option.{same_Some}
use Rattle.bm_base.specs.declared.replica.ReplicaId.{ReplicaId}
use Rattle.bm_base.specs.declared.storage.StorageInfo.{StorageInfo}
use Rattle.bm_base.specs.declared.replica.Level.{Level}
use Rattle.bm_base.specs.declared.commands.Transfer.{Transfer}
use Rattle.bm_base.specs.declared.commands.Delete.{Delete}
use Rattle.bm_base.specs.declared.config.Config.{Config}
use Rattle.bm_base.specs.declared.limits.Limits.{Limits}
use Rattle.bm_base.specs.declared.event.Remaining.{Remaining}
use Rattle.bm_base.specs.declared.event.Event.{Event}
use Rattle.bm_base.specs.declared.event.Event.TheVariants.{Register, Dead, StorageFailed, Heartbeat, Drain, Undrain}
use Rattle.bm_base.specs.declared.refusal.Refusal.{Refusal}
use Rattle.bm_base.specs.declared.call.Call.{Call}
use Rattle.bm_base.specs.declared.call.Call.TheVariants as call
use Rattle.bm_base.specs.declared.call.Answer.{Answer}
use Rattle.bm_base.specs.Words.{Set, by_number, get, keep, remove, contains_key, keys, len, RoundLimits, Cluster, Holdings, State, by_replica, first_state_within, empty_holdings, has, node_of, has_storage, drains, is_draining, sources_of, register, heartbeat, without_node, without_storage, drain, undrain, begin_drain, change_cluster, change_holdings, without_expired, without_unordered_excess, with_surplus_marked, state_after_expiry, state_at_choice, RequestedCopy, holders_of, excluded_for, is_target, target_cmp, least_target_by, least_target, scheduled_to, least_source, transfer_for, transfers_from, transfers, wishes, deletes, end_round, whole_round, refusal_of, round_refusal, node_refusal, storage_refusal, block_refusal, step, refused_or, after_event, state_after}
use Rattle.bm_base.proofs.MapLaws.{get-empty}
use Rattle.bm_base.proofs.Options.{there, is_there, revised}
use Rattle.bm_base.proofs.ForEach.{Each, each_passing, each_appended, each_optional, least_is_one}
use Rattle.bm_base.proofs.MapEntries.{get_kept, get_removed, get_taken, get_other, known_before}
use Rattle.bm_base.proofs.Clusters.{node_is}
use Rattle.bm_base.proofs.ClusterEvents.{same_nodes}
use Rattle.bm_parts.proofs.RemainingHoldings.{fewer_sent}
use Rattle.bm_parts.proofs.ChosenCopies.{made_of, unless}
use Rattle.laws_of_states.proofs.LawfulRounds.{all_pending}
use Rattle.laws_of_states.proofs.AcceptedEvents.{pending_before}
use Rattle.laws_of_events.proofs.NodeChanges.{new_or, new_storages}
use Rattle.laws_of_events.specs.DrainingNodes as law

-- Whether a storage's node drains.

off_by : (C : Cluster) (s : ℕ) (z : Option ℕ) → node_of C s ≡ z → ((n : ℕ) → node_of C s ≡ Some n → drains C n ≡ false) → option_map_or (drains C) z false ≡ false
off_by C s None e h = refl
off_by C s (Some n) e h = h n e

-- a storage does not drain if its node, if it has one, does not
off_where : (C : Cluster) (s : ℕ) → ((n : ℕ) → node_of C s ≡ Some n → drains C n ≡ false) → is_draining C s ≡ false
unfolding is_draining
off_where C s h = off_by C s (node_of C s) refl h

pub node_off : (C : Cluster) (s n : ℕ) → is_draining C s ≡ false → node_of C s ≡ Some n → drains C n ≡ false
unfolding is_draining
node_off C s n h e = sym (ap (λ z. option_map_or (drains C) z false) e) ∙ h

out_of_it : (d : Set by_number) (n m : ℕ) → contains_key d m ≡ false → contains_key (remove d n) m ≡ false
out_of_it d n m none = by_answer (contains_key (remove d n) m) refl
  where
    by_answer : (b : Bool) → contains_key (remove d n) m ≡ b → b ≡ false
    by_answer true e = absurd (true≢false (sym (known_before d n m e).1 ∙ none))
    by_answer false e = refl

-- Storages that do not drain after events.

registered_still : (C : Cluster) (n rack : ℕ) (ss : List ℕ) (s : ℕ) → is_draining C s ≡ false → is_draining (register C n rack ss) s ≡ false
unfolding register drains node_of
registered_still C n rack ss s off = off_where (register C n rack ss) s (λ m e. by_new m (has ss s) (ap (option_map (λ i. i.node)) (sym (new_storages n ss C.storages s)) ∙ e))
  where
    by_new : (m : ℕ) (b : Bool) → option_map (λ i. i.node) (new_or b n (get C.storages s)) ≡ Some m → contains_key (remove C.draining n) m ≡ false
    by_new m true e = ap (contains_key (remove C.draining n)) (sym (same_Some n m e)) ∙ ap is_some (get_taken C.draining n)
    by_new m false e = out_of_it C.draining n m (node_off C s m off e)

dead_still : (C : Cluster) (n s : ℕ) → is_draining C s ≡ false → is_draining (without_node C n) s ≡ false
unfolding without_node drains node_of
dead_still C n s off =
    off_where (without_node C n) s (λ m e.
    let i = revised (λ (j : StorageInfo). j.node) (get (keep C.storages (λ t _. not (has_storage C n t))) s) m e in
    let was = get_kept C.storages (λ t _. not (has_storage C n t)) s i.0 i.1 in
    out_of_it C.draining n m (node_off C s m off (node_is C s i.0 was.0 ∙ ap Some i.2)))

failed_still : (C : Cluster) (t s : ℕ) → is_draining C s ≡ false → is_draining (without_storage C t) s ≡ false
unfolding without_storage drains node_of
failed_still C t s off =
    off_where (without_storage C t) s (λ m e.
    let i = revised (λ (j : StorageInfo). j.node) (get (remove C.storages t) s) m e in
    let was = get_removed C.storages t s i.0 i.1 in
    node_off C s m off (node_is C s i.0 was.1 ∙ ap Some i.2))

still_not_draining : (C : Cluster) (rs : List Remaining) (s : ℕ) → is_draining C s ≡ false → is_draining (heartbeat C rs) s ≡ false
unfolding heartbeat drains node_of
still_not_draining C rs s off = off_where (heartbeat C rs) s (λ m e. node_off C s m off (sym (same_nodes C.storages rs s) ∙ e))

undrained_still : (C : Cluster) (n s : ℕ) → is_draining C s ≡ false → is_draining (undrain C n) s ≡ false
unfolding undrain drains node_of
undrained_still C n s off = off_where (undrain C n) s (λ m e. out_of_it C.draining n m (node_off C s m off e))

-- the node that begins to drain is another
drained_still : (C : Cluster) (n s : ℕ) → is_draining C s ≡ false → ((m : ℕ) → node_of C s ≡ Some m → m ≢ n) → is_draining (drain C n) s ≡ false
unfolding drain drains node_of
drained_still C n s off other = off_where (drain C n) s (λ m e. ap is_some (get_other C.draining n tt m (other m e)) ∙ node_off C s m off e)

-- Holdings without a pending transfer to a node that drains.
abbrev Spares : Cluster → Holdings → Type 0
Spares C H = (p : ReplicaId) → is_some (get H.pending p) ≡ true → is_draining C p.storage ≡ false

pub sent_before : (C : Cluster) (H : Holdings) (e : Event) (p : ReplicaId) → is_some (get (change_holdings C H e).pending p) ≡ true → is_some (get H.pending p) ≡ true
sent_before C H e p is = let r = there (get (change_holdings C H e).pending p) is in is_there (get H.pending p) r.0 (pending_before C H e p r.0 r.1)

at_node : (C : Cluster) (s m : ℕ) → node_of C s ≡ Some m → has_storage C m s ≡ true
unfolding has_storage
at_node C s m e = ap (λ z. option_map_or (λ k. k == m) z false) e ∙ eq-eqb m m refl

drain_spares : (C : Cluster) (H : Holdings) (n : ℕ) → Spares C H → Spares (drain C n) (begin_drain C H n)
unfolding begin_drain
drain_spares C H n S p is = by_state (drains C n) refl is
  where
    by_state : (b : Bool) → drains C n ≡ b → is_some (get (if b then H else fewer_sent C H n).pending p) ≡ true → is_draining (drain C n) p.storage ≡ false
    by_state true e is =
        let off = S p is in
        drained_still C n p.storage off (λ m at same. true≢false (sym e ∙ ap (drains C) (sym same) ∙ node_off C p.storage m off at))
    by_state false e is =
        let r = there (get (fewer_sent C H n).pending p) is in
        let was = get_kept H.pending (λ q _. not (has_storage C n q.storage)) p r.0 r.1 in
        drained_still C n p.storage (S p (is_there (get H.pending p) r.0 was.0))
        (λ m at same. true≢false (sym (ap (λ k. has_storage C k p.storage) (sym same) ∙ at_node C p.storage m at) ∙ not-true (has_storage C n p.storage) was.1))

event_spares : (C : Cluster) (H : Holdings) (e : Event) → Spares C H → Spares (change_cluster C e) (change_holdings C H e)
unfolding change_cluster change_holdings
event_spares C H (Register n rack ss) S p is = registered_still C n rack ss p.storage (S p (sent_before C H (Register n rack ss) p is))
event_spares C H (Dead n) S p is = dead_still C n p.storage (S p (sent_before C H (Dead n) p is))
event_spares C H (StorageFailed s) S p is = failed_still C s p.storage (S p (sent_before C H (StorageFailed s) p is))
event_spares C H (Heartbeat n rs) S p is = still_not_draining C rs p.storage (S p (sent_before C H (Heartbeat n rs) p is))
event_spares C H (Undrain n) S p is = undrained_still C n p.storage (S p (sent_before C H (Undrain n) p is))
event_spares C H (Drain n) S p is = drain_spares C H n S p is
event_spares C H e S p is = S p (sent_before C H e p is)

-- Rounds.

target_off : (C : Cluster) (chosen : List Transfer) (urgency : Level) (holders excluded : List ℕ) (l t : ℕ) → least_target C chosen (record { urgency = urgency; holders = holders; excluded = excluded; len = l }) ≡ Some t → is_draining C t ≡ false
unfolding least_target least_target_by is_target
target_off C chosen urgency holders excluded l t e =
    let test : ℕ → Bool = is_target C (scheduled_to chosen) (record { urgency = urgency; holders = holders; excluded = excluded; len = l }) in
    let found : test t ≡ true = least_is_one (λ s. test s ≡ true) (target_cmp C (scheduled_to chosen) holders) (filter test (keys C.storages)) (each_passing test (keys C.storages)) t e in
    not-true (is_draining C t) (and_parts _ _ (and_parts _ _ (and_parts _ _ found).0).0).1

abbrev IsSpared : Cluster → Transfer → Type 0
IsSpared C t = is_draining C t.target ≡ false

transfer_spared : (limits : RoundLimits) (C : Cluster) (H : Holdings) (chosen : List Transfer) (w : RequestedCopy) (t : Transfer) → transfer_for limits C H chosen w ≡ Some t → IsSpared C t
unfolding transfer_for
transfer_spared limits C H chosen w t e =
    let of_it = made_of w.block (get H.blocks w.block) (least_source C chosen w.urgency (sources_of C H w.block)) (λ i. least_target C chosen (record { urgency = w.urgency; holders = holders_of C H chosen w.block; excluded = excluded_for H chosen w.block; len = i.stamp.len })) t
    (unless (nat_le (limits.work * len C.nodes) (length chosen)) _ t e) in
    target_off C chosen w.urgency (holders_of C H chosen w.block) (excluded_for H chosen w.block) of_it.0.stamp.len t.target of_it.2

spared_from : (limits : RoundLimits) (C : Cluster) (H : Holdings) (chosen : List Transfer) (ws : List RequestedCopy) → Each (IsSpared C) chosen → Each (IsSpared C) (transfers_from limits C H chosen ws)
spared_from limits C H chosen [] h = h
spared_from limits C H chosen (w ∷ ws) h =
    spared_from limits C H (chosen ++ option_to_list (transfer_for limits C H chosen w)) ws
    (each_appended (IsSpared C) chosen (option_to_list (transfer_for limits C H chosen w)) h (each_optional (IsSpared C) (transfer_for limits C H chosen w) (transfer_spared limits C H chosen w)))

each_spared : (limits : RoundLimits) (C : Cluster) (H : Holdings) → Each (IsSpared C) (transfers limits C H)
unfolding transfers
each_spared limits C H = spared_from limits C H [] (wishes C H) tt

started_spares : (M : State) → Spares M.cluster M.holdings → Spares (state_at_choice M).cluster (state_at_choice M).holdings
unfolding state_at_choice state_after_expiry without_expired without_unordered_excess with_surplus_marked
started_spares M S p is = let r = there (get (state_at_choice M).holdings.pending p) is in S p (is_there (get M.holdings.pending p) r.0 (get_kept M.holdings.pending _ p r.0 r.1).0)

finished_spares : (C : Cluster) (r : ℕ) (H : Holdings) (ts : List Transfer) (ds : List Delete) → Spares C H → Each (IsSpared C) ts → Spares C (end_round r H ts ds)
finished_spares C r H ts ds S each p is =
    let sent = there (get (end_round r H ts ds).pending p) is in
    all_pending C r H ts ds (λ q _. is_draining C q.storage ≡ false) (λ q t e. S q (is_there (get H.pending q) t e)) each p sent.0 sent.1

round_spares : (M : State) → Spares M.cluster M.holdings → Spares (whole_round M).1.cluster (whole_round M).1.holdings
unfolding whole_round
round_spares M S =
    let N = state_at_choice M in
    let ts = transfers N.limits N.cluster N.holdings in
    finished_spares N.cluster N.round N.holdings ts (deletes N.limits N.cluster N.holdings) (started_spares M S) (each_spared N.limits N.cluster N.holdings)

-- All calls.

abbrev SparesIn : State → Type 0
SparesIn M = Spares M.cluster M.holdings

by_refusal : (M : State) (o : Option Refusal) (next : Answer × State) → SparesIn M → SparesIn next.1 → SparesIn (refused_or M o next).1
by_refusal M None next S T = T
by_refusal M (Some r) next S T = S

step_spares : (M : State) (k : Call) → SparesIn M → SparesIn (step M k).1
unfolding step after_event
step_spares M (call.Apply e) S = by_refusal M (refusal_of M e) _ S (event_spares M.cluster M.holdings e S)
step_spares M call.Round S = by_refusal M (round_refusal M) _ S (round_spares M S)
step_spares M call.Replicas S = S
step_spares M call.Corrupt S = S
step_spares M call.Excess S = S
step_spares M call.Missing S = S
step_spares M (call.BlocksOn s) S = by_refusal M (storage_refusal M.cluster s) _ S S
step_spares M (call.Places b) S = by_refusal M (block_refusal M.holdings b) _ S S
step_spares M (call.LevelOf b) S = by_refusal M (block_refusal M.holdings b) _ S S
step_spares M (call.Retired n) S = by_refusal M (node_refusal M.cluster n) _ S S
step_spares M call.Calls S = S
step_spares M call.Rounds S = S

spares_after : (M : State) (ks : List Call) → SparesIn M → SparesIn (state_after M ks)
spares_after M [] S = S
spares_after M (k ∷ ks) S = spares_after (step M k).1 ks (step_spares M k S)

first_spares : (l : Limits) (c : Config) → SparesIn (first_state_within l c)
unfolding empty_holdings
first_spares l c p is = absurd (true≢false (sym is ∙ ap is_some (get-empty by_replica p)))

pub none_sent_there : law.no_transfer_to_draining
none_sent_there l c ks = spares_after (first_state_within l c) ks (first_spares l c)
