-- A book updated by a call's answer still follows the manager, if memory did not run out.
use Rattle.std.proofs.Common.{◌≡◌, Bool, true, false, cond, not, ◌-◌, Option, Some, None, Result, Ok, Err, OnOk, inl, inr, refl, sym, ap, subst, ◌∙◌}
use Rattle.std.specs.Prelude.{nat_le}
use Rattle.std.specs.List.{flat_map}
use Rattle.bm_base.specs.declared.event.Event.{Event}
use Rattle.bm_base.specs.declared.event.Done.{Done}
use Rattle.bm_base.specs.declared.refusal.Refusal.{Refusal}
use Rattle.bm_base.specs.declared.call.Call.{Call}
use Rattle.bm_base.specs.declared.call.Call.TheVariants as call
use Rattle.bm_base.specs.declared.call.Answer.{Answer}
use Rattle.bm_base.specs.declared.call.Answer.TheVariants as answer
use Rattle.bm_base.specs.declared.replica.BlockInfo.{BlockInfo}
use Rattle.bm_base.specs.Words.{Map, by_number, keep, insert_all, Cluster, State, state_after_expiry, state_at_choice, with_surplus_marked, without_unordered_excess, without_expired, whole_round, end_round, ◌before◌, first_of, cluster_checks, refusal_of, round_refusal, node_refusal, storage_refusal, block_refusal, step, refused_or, after_event, count_call, MayAnswer, state_after_answer, is_out_of_memory}
use Rattle.bm_base.specs.Promises.Lawful.{IsLawful}
use Rattle.cluster_report.specs.declared.book.Book.{Book}
use Rattle.cluster_report.specs.declared.transfers.Transfers.{Transfers}
use Rattle.cluster_report.specs.declared.catalogue.Catalogue.{Catalogue}
use Rattle.cluster_report.specs.Books.{IsAccepted, cluster_after, AreCopiesAfter, AreBlocksAfter}
use Rattle.cluster_report.specs.Catalogues.{Lists}
use Rattle.cluster_report.specs.Copies.{commanded_to}
use Rattle.cluster_report.specs.Sessions.{Follows}
use Rattle.cluster_report.proofs.CopyLemmas.{round_copies}

-- ---- an event that is accepted

pub first_none : (x y : Option Refusal) → (x before y) ≡ None → x ≡ None
first_none None y e = refl
first_none (Some r) y e = cc

accepted_of : (C : Cluster) (e : Event) (M next : State) (d : Done) (o : Option Refusal) → (o ≡ None → first_of (cluster_checks C e) ≡ None)
    → IsAccepted C (call.Apply e) (refused_or M o (answer.Done d, next)).0
accepted_of C e M next d None h = h refl
accepted_of C e M next d (Some r) h = tt

accepted_step : (M : State) (k : Call) → IsAccepted M.cluster k (step M k).0
unfolding step refusal_of
accepted_step M (call.Apply e) = accepted_of M.cluster e M _ _ (refusal_of M e) (first_none (first_of (cluster_checks M.cluster e)) _)
accepted_step M call.Round = tt
accepted_step M call.Replicas = tt
accepted_step M call.Corrupt = tt
accepted_step M call.Excess = tt
accepted_step M call.Missing = tt
accepted_step M (call.BlocksOn s) = tt
accepted_step M (call.Places b) = tt
accepted_step M (call.LevelOf b) = tt
accepted_step M (call.Retired n) = tt
accepted_step M call.Calls = tt
accepted_step M call.Rounds = tt

-- ---- the cluster after a call

event_cluster : (M : State) (e : Event) (d : Done) (o : Option Refusal)
    → (refused_or M o (answer.Done d, after_event M e)).1.cluster ≡ cluster_after M.cluster (call.Apply e) (refused_or M o (answer.Done d, after_event M e)).0
unfolding after_event
event_cluster M e d None = refl
event_cluster M e d (Some r) = refl

other_cluster : (M next : State) (a : Answer) (o : Option Refusal) → next.cluster ≡ M.cluster → (refused_or M o (a, next)).1.cluster ≡ M.cluster
other_cluster M next a None h = h
other_cluster M next a (Some r) h = refl

round_cluster : (M : State) → (whole_round M).1.cluster ≡ M.cluster
unfolding whole_round state_at_choice state_after_expiry
round_cluster M = refl

cluster_step : (M : State) (k : Call) → (step M k).1.cluster ≡ cluster_after M.cluster k (step M k).0
unfolding step
cluster_step M (call.Apply e) = event_cluster M e _ (refusal_of M e)
cluster_step M call.Round = other_cluster M _ _ (round_refusal M) (round_cluster M)
cluster_step M call.Replicas = refl
cluster_step M call.Corrupt = refl
cluster_step M call.Excess = refl
cluster_step M call.Missing = refl
cluster_step M (call.BlocksOn s) = other_cluster M M _ (storage_refusal M.cluster s) refl
cluster_step M (call.Places b) = other_cluster M M _ (block_refusal M.holdings b) refl
cluster_step M (call.LevelOf b) = other_cluster M M _ (block_refusal M.holdings b) refl
cluster_step M (call.Retired n) = other_cluster M M _ (node_refusal M.cluster n) refl
cluster_step M call.Calls = refl
cluster_step M call.Rounds = refl

-- ---- the copies on their way after a call

event_copies : (M : State) (e : Event) (d : Done) (o : Option Refusal) (old new : Transfers) → old.copies ≡ M.holdings.pending
    → AreCopiesAfter M.cluster old (call.Apply e) (refused_or M o (answer.Done d, after_event M e)).0 new
    → new.copies ≡ (refused_or M o (answer.Done d, after_event M e)).1.holdings.pending
unfolding after_event
event_copies M e d None old new same h = h M.holdings same
event_copies M e d (Some r) old new same h = h ∙ same

round_copies_by : (M : State) (o : Option Refusal) (old new : Transfers) → IsLawful M → old.copies ≡ M.holdings.pending → old.pend ≡ M.limits.pend
    → AreCopiesAfter M.cluster old call.Round (refused_or M o (answer.Commanded (whole_round M).0, count_call (whole_round M).1)).0 new
    → new.copies ≡ (refused_or M o (answer.Commanded (whole_round M).0, count_call (whole_round M).1)).1.holdings.pending
round_copies_by M None old new L same pend h =
    h
    ∙ (λ i. insert_all (keep (same i) (λ _ r. not (nat_le (pend i) ((whole_round M).0.round - r)))) (flat_map (commanded_to (whole_round M).0.round) (whole_round M).0.nodes))
    ∙ round_copies M L
round_copies_by M (Some r) old new L same pend h = h ∙ same

stays : (M : State) (o : Option Refusal) (a : Answer) → (refused_or M o (a, M)).1 ≡ M
stays M None a = refl
stays M (Some r) a = refl

copies_step : (M : State) (k : Call) (old new : Transfers) → IsLawful M → old.copies ≡ M.holdings.pending → old.pend ≡ M.limits.pend → AreCopiesAfter M.cluster old k (step M k).0 new
    → new.copies ≡ (step M k).1.holdings.pending
unfolding step
copies_step M (call.Apply e) old new L same pend h = event_copies M e _ (refusal_of M e) old new same h
copies_step M call.Round old new L same pend h = round_copies_by M (round_refusal M) old new L same pend h
copies_step M call.Replicas old new L same pend h = h ∙ same
copies_step M call.Corrupt old new L same pend h = h ∙ same
copies_step M call.Excess old new L same pend h = h ∙ same
copies_step M call.Missing old new L same pend h = h ∙ same
copies_step M (call.BlocksOn s) old new L same pend h = h ∙ same ∙ ap (λ S. S.holdings.pending) (sym (stays M (storage_refusal M.cluster s) _))
copies_step M (call.Places b) old new L same pend h = h ∙ same ∙ ap (λ S. S.holdings.pending) (sym (stays M (block_refusal M.holdings b) _))
copies_step M (call.LevelOf b) old new L same pend h = h ∙ same ∙ ap (λ S. S.holdings.pending) (sym (stays M (block_refusal M.holdings b) _))
copies_step M (call.Retired n) old new L same pend h = h ∙ same ∙ ap (λ S. S.holdings.pending) (sym (stays M (node_refusal M.cluster n) _))
copies_step M call.Calls old new L same pend h = h ∙ same
copies_step M call.Rounds old new L same pend h = h ∙ same

-- ---- the blocks after a call

event_blocks : (M : State) (e : Event) (d : Done) (o : Option Refusal) (old new : Catalogue) → Lists old M.holdings.blocks
    → AreBlocksAfter M.cluster old (call.Apply e) (refused_or M o (answer.Done d, after_event M e)).0 new
    → Lists new (refused_or M o (answer.Done d, after_event M e)).1.holdings.blocks
unfolding after_event
event_blocks M e d None old new lists h = h M.holdings lists
event_blocks M e d (Some r) old new lists h = subst (λ c. Lists c M.holdings.blocks) (sym h) lists

round_blocks : (M : State) → (whole_round M).1.holdings.blocks ≡ M.holdings.blocks
unfolding whole_round state_at_choice state_after_expiry with_surplus_marked without_unordered_excess without_expired end_round
round_blocks M = refl

other_blocks : (M next : State) (a : Answer) (o : Option Refusal) → next.holdings.blocks ≡ M.holdings.blocks
    → (refused_or M o (a, next)).1.holdings.blocks ≡ M.holdings.blocks
other_blocks M next a None h = h
other_blocks M next a (Some r) h = refl

lists_still : (old new : Catalogue) (blocks after : Map by_number BlockInfo) → Lists old blocks → new ≡ old → after ≡ blocks → Lists new after
lists_still old new blocks after lists same kept = subst (λ c. Lists c after) (sym same) (subst (Lists old) (sym kept) lists)

blocks_step : (M : State) (k : Call) (old new : Catalogue) → Lists old M.holdings.blocks → AreBlocksAfter M.cluster old k (step M k).0 new
    → Lists new (step M k).1.holdings.blocks
unfolding step
blocks_step M (call.Apply e) old new lists h = event_blocks M e _ (refusal_of M e) old new lists h
blocks_step M call.Round old new lists h = lists_still old new _ _ lists h (other_blocks M _ _ (round_refusal M) (round_blocks M))
blocks_step M call.Replicas old new lists h = lists_still old new _ _ lists h refl
blocks_step M call.Corrupt old new lists h = lists_still old new _ _ lists h refl
blocks_step M call.Excess old new lists h = lists_still old new _ _ lists h refl
blocks_step M call.Missing old new lists h = lists_still old new _ _ lists h refl
blocks_step M (call.BlocksOn s) old new lists h = lists_still old new _ _ lists h (other_blocks M M _ (storage_refusal M.cluster s) refl)
blocks_step M (call.Places b) old new lists h = lists_still old new _ _ lists h (other_blocks M M _ (block_refusal M.holdings b) refl)
blocks_step M (call.LevelOf b) old new lists h = lists_still old new _ _ lists h (other_blocks M M _ (block_refusal M.holdings b) refl)
blocks_step M (call.Retired n) old new lists h = lists_still old new _ _ lists h (other_blocks M M _ (node_refusal M.cluster n) refl)
blocks_step M call.Calls old new lists h = lists_still old new _ _ lists h refl
blocks_step M call.Rounds old new lists h = lists_still old new _ _ lists h refl

-- ---- the limits stay

other_limits : (M next : State) (a : Answer) (o : Option Refusal) → next.limits ≡ M.limits → (refused_or M o (a, next)).1.limits ≡ M.limits
other_limits M next a None h = h
other_limits M next a (Some r) h = refl

event_limits : (M : State) (e : Event) → (after_event M e).limits ≡ M.limits
unfolding after_event
event_limits M e = refl

round_limits : (M : State) → (whole_round M).1.limits ≡ M.limits
unfolding whole_round state_at_choice state_after_expiry
round_limits M = refl

limits_step : (M : State) (k : Call) → (step M k).1.limits ≡ M.limits
unfolding step
limits_step M (call.Apply e) = other_limits M _ _ (refusal_of M e) (event_limits M e)
limits_step M call.Round = other_limits M _ _ (round_refusal M) (round_limits M)
limits_step M call.Replicas = refl
limits_step M call.Corrupt = refl
limits_step M call.Excess = refl
limits_step M call.Missing = refl
limits_step M (call.BlocksOn s) = other_limits M M _ (storage_refusal M.cluster s) refl
limits_step M (call.Places b) = other_limits M M _ (block_refusal M.holdings b) refl
limits_step M (call.LevelOf b) = other_limits M M _ (block_refusal M.holdings b) refl
limits_step M (call.Retired n) = other_limits M M _ (node_refusal M.cluster n) refl
limits_step M call.Calls = refl
limits_step M call.Rounds = refl

-- ---- a call that did not run out of memory

answered : (M : State) (k : Call) (a : Answer) → MayAnswer M k a → is_out_of_memory a ≡ false → a ≡ (step M k).0
answered M k a (inl e) h = e
answered M k a (inr e) h = absurd_bool (sym (ap is_out_of_memory e.1) ∙ h)
  where
    absurd_bool : {A : Type 0} → true ≡ false → A
    absurd_bool e = cc

pub accepted_by : (M : State) (C : Cluster) (k : Call) (a : Answer) → C ≡ M.cluster → MayAnswer M k a → is_out_of_memory a ≡ false → IsAccepted C k a
accepted_by M C k a same may none =
    subst (λ D. IsAccepted D k a) (sym same) (subst (IsAccepted M.cluster k) (sym (answered M k a may none)) (accepted_step M k))

left_step : (M N : State) (k : Call) (b : Bool) → b ≡ false → N ≡ (cond b M (step M k).1) → N ≡ (step M k).1
left_step M N k b none e = e ∙ ap (λ c. cond c M (step M k).1) none

-- the book follows the manager after a call
pub follows_by : (M N : State) (old new : Book) (k : Call) (a : Answer) → IsLawful M → Follows old M → MayAnswer M k a → is_out_of_memory a ≡ false → N ≡ state_after_answer M k a
    → new.topology.cluster ≡ cluster_after old.topology.cluster k a → AreCopiesAfter old.topology.cluster old.transfers k a new.transfers → new.transfers.pend ≡ old.transfers.pend
    → AreBlocksAfter old.topology.cluster old.blocks k a new.blocks → Follows new N
follows_by M N old new k a L F may none left cluster copies pend blocks =
    let is : a ≡ (step M k).0 = answered M k a may none in
    let next : (step M k).1 ≡ N = sym (left_step M N k (is_out_of_memory a) none left) in
    record {
      cluster = cluster ∙ ap (λ E. cluster_after E k a) F.cluster ∙ ap (cluster_after M.cluster k) is ∙ sym (cluster_step M k) ∙ ap (λ S. S.cluster) next;
      copies =
          copies_step M k old.transfers new.transfers L F.copies F.pend
          (subst (λ b. AreCopiesAfter M.cluster old.transfers k b new.transfers) is (subst (λ C. AreCopiesAfter C old.transfers k a new.transfers) F.cluster copies))
          ∙ ap (λ S. S.holdings.pending) next;
      blocks =
          subst (λ S. Lists new.blocks S.holdings.blocks) next
          (blocks_step M k old.blocks new.blocks F.blocks
          (subst (λ b. AreBlocksAfter M.cluster old.blocks k b new.blocks) is (subst (λ C. AreBlocksAfter C old.blocks k a new.blocks) F.cluster blocks)));
      pend = pend ∙ F.pend ∙ ap (λ l. l.pend) (sym (limits_step M k)) ∙ ap (λ S. S.limits.pend) next;
    }

pub on_ok : {A E P : Type 0} (r : Result A E) → P → OnOk r P
on_ok (Ok x) p = p
on_ok (Err e) p = tt
