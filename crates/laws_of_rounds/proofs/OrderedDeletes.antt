-- A replica whose delete was commanded is unusable until reported; a known block keeps a good one.
use Rattle.std.specs.Prelude.{◌≡◌, ℕ, Bool, true, false, not, ◌&&◌, ◌==◌, ◌⊎◌, if◌then◌else◌, List, [], ◌∷◌, map, Option, Some, None, is_some, option_and_then}
use Rattle.std.specs.Ordering.{eq_by_cmp}
use Rattle.std.proofs.Common.{cond, refl, sym, ap, subst, ◌∙◌}
use Rattle.std.proofs.lemmas.Bool.{false≢true, true≢false, false_from_ne_true}
use Rattle.bm_base.specs.declared.config.Config.{Config}
use Rattle.bm_base.specs.declared.limits.Limits.{Limits}
use Rattle.bm_base.specs.declared.call.Call.{Call}
use Rattle.bm_base.specs.declared.call.Call.TheVariants as call
use Rattle.bm_base.specs.declared.event.Event.{Event}
use Rattle.bm_base.specs.declared.event.Event.TheVariants.{Register, Dead, StorageFailed, Heartbeat, Drain, Undrain, AddBlock, DeleteBlock, SetReplication, Restamp, Received, Deleted, Corrupt, FullReport}
use Rattle.bm_base.specs.Words.{ReportedBlock, expanded, Map, get, insert, insert_all, keep, revise, revise_at, remove, Cluster, Holdings, State, by_replica, replica_cmp, replica_at, first_state_within, empty_holdings, is_good, is_stray, is_corrupt, is_usable, is_draining, drains, has_storage, has_enough_live, entered_marks, enter, report, without_pending, change_marks_of_block, as_stray, as_bad, as_restamped, add_block, delete_block, set_replication, restamp, make_bad, remove_replica, without_storages, begin_drain, change_holdings, state_after_expiry, state_at_choice, has, is_deletable, is_commanded, refusal_of, round_refusal, node_refusal, storage_refusal, block_refusal, after_event, refused_or, step, state_after}
use Rattle.bm_base.specs.declared.refusal.Refusal.{Refusal}
use Rattle.bm_base.specs.declared.call.Answer.{Answer}
use Rattle.bm_base.specs.declared.replica.ReplicaId.{ReplicaId}
use Rattle.bm_base.specs.declared.replica.Tag.{Tag}
use Rattle.bm_base.specs.declared.replica.Tag.TheVariants.{Good, Stale, Bad, Stray}
use Rattle.bm_base.specs.declared.replica.Marks.{Marks}
use Rattle.bm_base.specs.declared.replica.Stamp.{Stamp}
use Rattle.bm_base.specs.Promises.Lawful.{IsOrderly}
use Rattle.bm_base.specs.declared.replica.BlockInfo.{BlockInfo}
use Rattle.bm_base.proofs.MapLaws.{get-empty, get-insert, get-keep, get-revise, get-remove}
use Rattle.bm_base.specs.Promises.NextRound.{after_round}
use Rattle.std.proofs.lemmas.Option.{same_Some}
use Rattle.std.proofs.Math.Bool.{and-false}
use Rattle.bm_base.proofs.ForEach.{each_any}
use Rattle.laws_of_states.proofs.MarkedReplicas.{unordered_dropped, ordered_by}
use Rattle.laws_of_states.proofs.RoundCommands.{IsTested, IsChosen, chosen_deletes, chosen_deletes_of, at_same}
use Rattle.laws_of_states.proofs.LiveAfterRound.{one_stays, remarked, surplus_of, marks_started, deleted_marks, live_is_kept, weaker_kind}
use Rattle.bm_base.proofs.Options.{revised}
use Rattle.laws_of_states.proofs.AfterRound.{marks_after}
use Rattle.laws_of_states.proofs.LiveReplicas.{live_is}

-- a replica whose delete was commanded is not usable
abbrev pub IsDone : Marks → Type 0
IsDone m = m.ordered ≡ true → is_usable m ≡ false

-- this holds of all marks of a map
abbrev pub AreDone : Map by_replica Marks → Type 0
AreDone r = (q : ReplicaId) (m : Marks) → get r q ≡ Some m → IsDone m

done_same : (m n : Marks) → Some n ≡ Some m → IsDone n → IsDone m
done_same m n e h = subst IsDone (same_Some n m e) h

-- Changes of a map.

passed_one : {X : Type 0} (b : Bool) (n m : X) → cond b (Some n) None ≡ Some m → n ≡ m
passed_one true n m e = cc
passed_one false n m e = absurd (false≢true (ap is_some e))

passed_was : (o : Option Marks) (p : Marks → Bool) (m : Marks) → option_and_then (λ n. cond (p n) (Some n) None) o ≡ Some m → o ≡ Some m
passed_was None p m e = e
passed_was (Some n) p m e = ap Some (passed_one (p n) n m e)

done_kept : (r : Map by_replica Marks) (p : ReplicaId → Marks → Bool) → AreDone r → AreDone (keep r p)
done_kept r p h q m e = h q m (passed_was (get r q) (p q) m (sym (get-keep r p q) ∙ e))

done_revised : (r : Map by_replica Marks) (f : ReplicaId → Marks → Marks) → ((q : ReplicaId) (m : Marks) → IsDone m → IsDone (f q m)) → AreDone r → AreDone (revise r f)
done_revised r f each h q m e =
    let was = revised (f q) (get r q) m (sym (get-revise r f q) ∙ e) in
    subst IsDone was.2 (each q was.0 (h q was.0 was.1))

done_inserted : (r : Map by_replica Marks) (k : ReplicaId) (v : Marks) → IsDone v → AreDone r → AreDone (insert r k v)
done_inserted r k v new h q m e = by_key (eq_by_cmp replica_cmp q k) (sym (get-insert r k v q) ∙ e)
  where
    by_key : (b : Bool) → cond b (Some v) (get r q) ≡ Some m → IsDone m
    by_key true f = done_same m v f new
    by_key false f = h q m f

done_removed : (r : Map by_replica Marks) (k : ReplicaId) → AreDone r → AreDone (remove r k)
done_removed r k h q m e = by_key (eq_by_cmp replica_cmp q k) (sym (get-remove r k q) ∙ e)
  where
    by_key : (b : Bool) → cond b None (get r q) ≡ Some m → IsDone m
    by_key true f = absurd (false≢true (ap is_some f))
    by_key false f = h q m f

-- Events.

not_good : (m : Marks) → is_good m.tag ≡ false → IsDone m
not_good m e _ = ap (λ b. b && not m.excess) e

restamped_tag : (t : Tag) → is_good (if is_good t then Stale else t) ≡ false
restamped_tag Good = refl
restamped_tag Stale = refl
restamped_tag Bad = refl
restamped_tag Stray = refl

done_if : (b : Bool) (f : Marks → Marks) (m : Marks) → IsDone (f m) → IsDone m → IsDone (if b then f m else m)
done_if true f m new old = new
done_if false f m new old = old

done_block : (H : Holdings) (b : ℕ) (f : Marks → Marks) → ((m : Marks) → IsDone (f m)) → AreDone H.replicas → AreDone (change_marks_of_block H b f).replicas
unfolding change_marks_of_block
done_block H b f new h = done_revised H.replicas (λ q m. if q.block == b then f m else m) (λ q m old. done_if (q.block == b) f m (new m) old) h

done_entered : (H : Holdings) (p : ReplicaId) (stamp : Stamp) → IsDone (entered_marks H p stamp)
unfolding entered_marks
done_entered H p stamp e = absurd (false≢true e)

done_reported : (H : Holdings) (s : ℕ) (ts : List ReportedBlock) (r : Map by_replica Marks) → AreDone r → AreDone (insert_all r (map (λ t. (replica_at t.id s, entered_marks H (replica_at t.id s) t.stamp)) ts))
done_reported H s [] r h = h
done_reported H s (t ∷ ts) r h =
    done_reported H s ts (insert r (replica_at t.id s) (entered_marks H (replica_at t.id s) t.stamp)) (done_inserted r (replica_at t.id s) (entered_marks H (replica_at t.id s) t.stamp) (done_entered H (replica_at t.id s) t.stamp) h)

-- a change of the pending transfers keeps the marks
done_drained : (C : Cluster) (H : Holdings) (n : ℕ) → AreDone H.replicas → AreDone (begin_drain C H n).replicas
unfolding begin_drain
done_drained C H n h =
    elim (drains C n) as (λ t. AreDone (if t then H else record H { pending = keep H.pending (λ q _. not (has_storage C n q.storage)) }).replicas) [
      | true ↦ h
      | false ↦ h
    ]

pub done_event : (C : Cluster) (H : Holdings) (e : Event) → AreDone H.replicas → AreDone (change_holdings C H e).replicas
unfolding change_holdings without_storages add_block delete_block without_pending set_replication restamp enter remove_replica make_bad revise_at report
done_event C H (Register n rack ss) h = h
done_event C H (Heartbeat n rs) h = h
done_event C H (Drain n) h = done_drained C H n h
done_event C H (Undrain n) h = h
done_event C H (Dead n) h = done_kept H.replicas _ h
done_event C H (StorageFailed s) h = done_kept H.replicas _ h
done_event C H (AddBlock b stamp repl) h = h
done_event C H (DeleteBlock b) h = done_block H b as_stray (λ m. not_good (as_stray m) refl) h
done_event C H (SetReplication b repl) h = h
done_event C H (Restamp b stamp) h = done_block H b as_restamped (λ m. not_good (as_restamped m) (restamped_tag m.tag)) h
done_event C H (Received s b stamp) h = done_inserted _ (replica_at b s) (entered_marks H (replica_at b s) stamp) (done_entered H (replica_at b s) stamp) (done_kept H.replicas _ h)
done_event C H (Deleted s b) h = done_removed H.replicas (replica_at b s) h
done_event C H (Corrupt s b) h =
    done_revised H.replicas (λ q m. if eq_by_cmp replica_cmp q (replica_at b s) then as_bad m else m)
    (λ q m old. done_if (eq_by_cmp replica_cmp q (replica_at b s)) as_bad m (not_good (as_bad m) refl) old) h
done_event C H (FullReport s es) h = done_reported H s (expanded es) _ (done_kept H.replicas _ h)

-- Rounds.

with_mark : (c : Bool) (n : Marks) → IsDone n → IsDone (if c then record n { excess = true } else n)
with_mark true n old e = and-false (is_good n.tag)
with_mark false n old e = old e

dropped_done : (t : Bool) (n : Marks) → n.ordered ≡ t → IsDone n → IsDone (if t then n else record n { excess = false })
dropped_done true n is old = old
dropped_done false n is old = λ e. absurd (true≢false (sym e ∙ is))

-- a replica whose delete was commanded before keeps its tag, and stays in excess if it is
done_remarked : (chosen : List ℕ) (s : ℕ) (m : Marks) → IsDone m → IsDone (remarked chosen s m)
done_remarked chosen s m h = with_mark (has chosen s) (unordered_dropped m) (dropped_done m.ordered m refl h)

done_started : (M : State) → AreDone M.holdings.replicas → AreDone (state_at_choice M).holdings.replicas
done_started M h q m e =
    let was = revised (remarked (surplus_of M q.block) q.storage) (get M.holdings.replicas q) m (sym (marks_started M q) ∙ e) in
    subst IsDone was.2 (done_remarked (surplus_of M q.block) q.storage was.0 (h q was.0 was.1))

-- a replica whose delete a round chooses is not usable
chosen_not_usable : (M : State) (q : ReplicaId) (m : Marks) → get (state_at_choice M).holdings.replicas q ≡ Some m → is_commanded (chosen_deletes_of M) q ≡ true → is_usable m ≡ false
unfolding is_commanded state_at_choice state_after_expiry
chosen_not_usable M q m e h =
    let found = each_any (IsChosen M.cluster (state_at_choice M).holdings) (λ d. (d.storage == q.storage) && (d.block == q.block)) (chosen_deletes_of M) (chosen_deletes M.cluster (state_at_choice M).holdings M.limits) h in
    let is = at_same found.0 q found.2 in
    let same : found.1.marks ≡ m = same_Some found.1.marks m (sym (subst (λ p. get (state_at_choice M).holdings.replicas p ≡ Some found.1.marks) is found.1.is_there) ∙ e) in
    let marks = deleted_marks M q found.1.marks (subst (λ p. is_deletable M.cluster (state_at_choice M).holdings p found.1.marks ≡ true) is found.1.deletable) in
    by_live (is_usable m) refl (subst (λ n. (is_stray n.tag ≡ true) ⊎ ((n.excess ≡ true) ⊎ (is_corrupt n.tag ≡ true))) same (weaker_kind found.1.marks (has_enough_live M.cluster (state_at_choice M).holdings q.block) marks.1))
  where
    by_live : (b : Bool) → is_usable m ≡ b → (is_stray m.tag ≡ true) ⊎ ((m.excess ≡ true) ⊎ (is_corrupt m.tag ≡ true)) → b ≡ false
    by_live true f kind = absurd (live_is_kept m.tag m.excess f kind)
    by_live false f kind = refl

done_commanded : (t : Bool) (m : Marks) → (t ≡ true → is_usable m ≡ false) → IsDone m → IsDone (if t then record m { ordered = true } else m)
done_commanded true m chosen old e = chosen refl
done_commanded false m chosen old e = old e

pub done_round : (M : State) → AreDone M.holdings.replicas → AreDone (after_round M).holdings.replicas
done_round M h q m e =
    let was = revised (ordered_by (chosen_deletes_of M) q) (get (state_at_choice M).holdings.replicas q) m (sym (marks_after M q) ∙ e) in
    subst IsDone was.2 (done_commanded (is_commanded (chosen_deletes_of M) q) was.0 (chosen_not_usable M q was.0 was.1) (done_started M h q was.0 was.1))

-- Calls.

abbrev IsDoneState : State → Type 0
IsDoneState M = AreDone M.holdings.replicas

done_or : (M : State) (r : Option Refusal) (next : Answer × State) → IsDoneState M → IsDoneState next.1 → IsDoneState (refused_or M r next).1
done_or M None next h new = new
done_or M (Some r) next h new = h

done_step : (M : State) (k : Call) → IsDoneState M → IsDoneState (step M k).1
unfolding step after_event
done_step M (call.Apply e) h = done_or M (refusal_of M e) _ h (done_event M.cluster M.holdings e h)
done_step M call.Round h = done_or M (round_refusal M) _ h (done_round M h)
done_step M call.Replicas h = h
done_step M call.Corrupt h = h
done_step M call.Excess h = h
done_step M call.Missing h = h
done_step M (call.BlocksOn s) h = done_or M (storage_refusal M.cluster s) _ h h
done_step M (call.Places b) h = done_or M (block_refusal M.holdings b) _ h h
done_step M (call.LevelOf b) h = done_or M (block_refusal M.holdings b) _ h h
done_step M (call.Retired n) h = done_or M (node_refusal M.cluster n) _ h h
done_step M call.Calls h = h
done_step M call.Rounds h = h

done_calls : (M : State) (ks : List Call) → IsDoneState M → IsDoneState (state_after M ks)
done_calls M [] h = h
done_calls M (k ∷ ks) h = done_calls (step M k).1 ks (done_step M k h)

done_first : (l : Limits) (c : Config) → IsDoneState (first_state_within l c)
unfolding empty_holdings
done_first l c q m e = absurd (false≢true (ap is_some (sym (get-empty by_replica q) ∙ e)))

pub done_reached : (l : Limits) (c : Config) (ks : List Call) → IsDoneState (state_after (first_state_within l c) ks)
done_reached l c ks = done_calls (first_state_within l c) ks (done_first l c)

-- The replica that stays.

pub good_stays : (M : State) (b s : ℕ) (i : BlockInfo) → IsDoneState M → IsOrderly M → get M.holdings.blocks b ≡ Some i → IsTested M (replica_at b s)
    → (t : ℕ) × (m : Marks) × (get (after_round M).holdings.replicas (replica_at b t) ≡ Some m) × (m.tag ≡ Good) × (m.excess ≡ false) × (m.ordered ≡ false) × (is_draining M.cluster t ≡ false)
good_stays M b s i done lawful known h =
    let one = one_stays M b s i lawful known h in
    let is = (live_is M.cluster (after_round M).holdings b one.0).0 one.1 in
    (one.0, is.0, is.1, is.2, is.3, unordered is.0 (ap (λ t. is_good t && not is.0.excess) is.2 ∙ ap not is.3) (done_round M done (replica_at b one.0) is.0 is.1), is.4)
  where
    unordered : (m : Marks) → is_usable m ≡ true → IsDone m → m.ordered ≡ false
    unordered m usable h = false_from_ne_true m.ordered (λ e. true≢false (sym usable ∙ h e))
