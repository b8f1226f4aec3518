-- Queries keep the state, accepted events are counted, rounds keep all replicas and tags, and no
-- call changes the limits of the cluster.
use Rattle.std.proofs.Common.{◌≡◌, ℕ, true, false, Option, Some, None, List, [], ◌∷◌, refl, ap, ◌∙◌}
use Rattle.std.specs.Prelude.{if◌then◌else◌, option_map}
use Rattle.bm_base.specs.declared.replica.ReplicaId.{ReplicaId}
use Rattle.bm_base.specs.declared.replica.Marks.{Marks}
use Rattle.bm_base.specs.declared.commands.Transfer.{Transfer}
use Rattle.bm_base.specs.declared.commands.Delete.{Delete}
use Rattle.bm_base.specs.declared.event.Event.{Event}
use Rattle.bm_base.specs.declared.refusal.Refusal.{Refusal}
use Rattle.bm_base.specs.declared.call.Call.{Call}
use Rattle.bm_base.specs.declared.call.Call.TheVariants as call
use Rattle.bm_base.specs.declared.call.Answer.{Answer}
use Rattle.bm_base.specs.Words.{Map, get, revise, Cluster, Holdings, State, by_replica, has, without_expired, without_unordered_excess, excess_in, with_surplus_marked, state_after_expiry, state_at_choice, transfers, deletes, is_commanded, end_round, whole_round, refusal_of, round_refusal, node_refusal, storage_refusal, block_refusal, step, refused_or, after_event, count_call, state_after}
use Rattle.bm_base.proofs.MapLaws.{get-revise}
use Rattle.laws_of_states.proofs.LawfulRounds.{cleared_tag, marked_tag, ordered_tag}
use Rattle.laws_of_states.proofs.AcceptedEvents.{same_limits}
use Rattle.laws_of_states.proofs.OrderlyStates.{by_refusal}
use Rattle.laws_of_events.specs.Calls as law

either : (M : State) (o : Option Refusal) (a : Answer) → (refused_or M o (a, M)).1 ≡ M
either M None a = refl
either M (Some r) a = refl

pub query_leaves : law.query_leaves_state
unfolding step
query_leaves M (call.Apply e) h = cc
query_leaves M call.Round h = cc
query_leaves M call.Replicas h = refl
query_leaves M call.Corrupt h = refl
query_leaves M call.Excess h = refl
query_leaves M call.Missing h = refl
query_leaves M (call.BlocksOn s) h = either M (storage_refusal M.cluster s) _
query_leaves M (call.Places b) h = either M (block_refusal M.holdings b) _
query_leaves M (call.LevelOf b) h = either M (block_refusal M.holdings b) _
query_leaves M (call.Retired n) h = either M (node_refusal M.cluster n) _
query_leaves M call.Calls h = refl
query_leaves M call.Rounds h = refl

-- the next state if nothing refuses
not_refused : (M : State) (o : Option Refusal) (next : Answer × State) → o ≡ None → (refused_or M o next).1 ≡ next.1
not_refused M o next e = ap (λ r. (refused_or M r next).1) e

event_step : (M : State) (e : Event) → refusal_of M e ≡ None → (step M (call.Apply e)).1 ≡ after_event M e
unfolding step
event_step M e none = not_refused M (refusal_of M e) _ none

pub event_counted : law.event_is_counted
unfolding after_event
event_counted M e none =
    let is = event_step M e none in
    (record { calls = ap (λ N. N.calls) is; limits = ap (λ N. N.limits) is }, ap (λ N. N.round) is)

-- A round keeps tags.

tagged : (m : Map by_replica Marks) (f : ReplicaId → Marks → Marks) → ((p : ReplicaId) (k : Marks) → (f p k).tag ≡ k.tag) → (p : ReplicaId) → option_map (λ k. k.tag) (get (revise m f) p) ≡ option_map (λ k. k.tag) (get m p)
tagged m f same p = ap (option_map (λ k. k.tag)) (get-revise m f p) ∙ by_value (get m p)
  where
    by_value : (z : Option Marks) → option_map (λ k. k.tag) (option_map (f p) z) ≡ option_map (λ k. k.tag) z
    by_value None = refl
    by_value (Some k) = ap Some (same p k)

cleared_tags : (H : Holdings) (p : ReplicaId) → option_map (λ k. k.tag) (get (without_unordered_excess H).replicas p) ≡ option_map (λ k. k.tag) (get H.replicas p)
unfolding without_unordered_excess
cleared_tags H p = tagged H.replicas (λ _ m. if m.ordered then m else record m { excess = false }) (λ _ m. cleared_tag m.ordered m) p

marked_tags : (C : Cluster) (H : Holdings) (p : ReplicaId) → option_map (λ k. k.tag) (get (with_surplus_marked C H).replicas p) ≡ option_map (λ k. k.tag) (get H.replicas p)
unfolding with_surplus_marked
marked_tags C H p = tagged H.replicas (λ q m. if has (excess_in C H q.block) q.storage then record m { excess = true } else m) (λ q m. marked_tag (has (excess_in C H q.block) q.storage) m) p

finished_tags : (r : ℕ) (H : Holdings) (ts : List Transfer) (ds : List Delete) (p : ReplicaId) → option_map (λ k. k.tag) (get (end_round r H ts ds).replicas p) ≡ option_map (λ k. k.tag) (get H.replicas p)
unfolding end_round
finished_tags r H ts ds p = tagged H.replicas (λ q m. if is_commanded ds q then record m { ordered = true } else m) (λ q m. ordered_tag (is_commanded ds q) m) p

round_step : (M : State) → round_refusal M ≡ None → (step M call.Round).1 ≡ count_call (whole_round M).1
unfolding step
round_step M none = not_refused M (round_refusal M) _ none

pub next_round : (M : State) → law.IsNextRound M (count_call (whole_round M).1)
unfolding whole_round state_at_choice state_after_expiry without_expired without_unordered_excess with_surplus_marked end_round
next_round M =
    let B = state_after_expiry M in
    let N = state_at_choice M in
    record {
      counted = record { calls = refl; limits = refl };
      round = refl;
      cluster = refl;
      blocks = refl;
      tags = λ p.
          finished_tags N.round N.holdings (transfers N.limits N.cluster N.holdings) (deletes N.limits N.cluster N.holdings) p
          ∙ marked_tags M.cluster (without_unordered_excess B.holdings) p ∙ cleared_tags B.holdings p;
    }

pub round_counted : law.round_is_counted
round_counted M none = rw (round_step M none) (next_round M)

-- The limits of the cluster.

pub limits_left : law.call_leaves_cluster_limits
unfolding step after_event whole_round state_at_choice state_after_expiry
limits_left M (call.Apply e) = by_refusal (λ N. N.cluster.limits ≡ M.cluster.limits) M (refusal_of M e) _ refl (λ _. same_limits M.cluster e)
limits_left M call.Round = by_refusal (λ N. N.cluster.limits ≡ M.cluster.limits) M (round_refusal M) _ refl (λ _. refl)
limits_left M call.Replicas = refl
limits_left M call.Corrupt = refl
limits_left M call.Excess = refl
limits_left M call.Missing = refl
limits_left M (call.BlocksOn s) = ap (λ N. N.cluster.limits) (either M (storage_refusal M.cluster s) _)
limits_left M (call.Places b) = ap (λ N. N.cluster.limits) (either M (block_refusal M.holdings b) _)
limits_left M (call.LevelOf b) = ap (λ N. N.cluster.limits) (either M (block_refusal M.holdings b) _)
limits_left M (call.Retired n) = ap (λ N. N.cluster.limits) (either M (node_refusal M.cluster n) _)
limits_left M call.Calls = refl
limits_left M call.Rounds = refl

pub limits_stay : (M : State) (ks : List Call) → (state_after M ks).cluster.limits ≡ M.cluster.limits
limits_stay M [] = refl
limits_stay M (k ∷ ks) = limits_stay (step M k).1 ks ∙ limits_left M k
