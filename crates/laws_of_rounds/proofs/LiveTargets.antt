-- While nodes obey a round, the target of each copy that has arrived is live.
use Rattle.std.specs.Prelude.{◌≡◌, true, false, ◌==◌, List, [], ◌∷◌, ◌++◌, Option, Some, None, is_some}
use Rattle.std.specs.Option.{option_map_or}
use Rattle.std.proofs.Common.{refl, sym, ap, subst, ◌∙◌}
use Rattle.std.proofs.lemmas.Bool.{eqb-true, true≢false, false_from_ne_true}
use Rattle.bm_base.specs.declared.replica.ReplicaId.{ReplicaId}
use Rattle.bm_base.specs.declared.replica.Marks.{Marks}
use Rattle.bm_base.specs.declared.event.Event.{Event}
use Rattle.bm_base.specs.declared.commands.Transfer.{Transfer}
use Rattle.bm_base.specs.Words.{get, State, replica_at, has, is_usable, is_draining, replaces, after_event}
use Rattle.bm_base.specs.Promises.NextRound.{IsAmong, IsTransferCommanded, after_round}
use Rattle.bm_base.proofs.Options.{is_there}
use Rattle.bm_base.proofs.ForEach.{Each}
use Rattle.bm_base.proofs.ListTests.{same_again}
use Rattle.laws_of_states.proofs.CommandedDeletes.{tested}
use Rattle.laws_of_rounds.specs.Obedience.{copied, Obeys, after_events, after_obeying, live_obeying}
use Rattle.laws_of_rounds.proofs.DeleteReasons.{not_ordered}
use Rattle.laws_of_rounds.proofs.TransferLaws.{fresh_node}
use Rattle.laws_of_rounds.proofs.NextRounds.{commanded_chosen}
use Rattle.laws_of_rounds.proofs.DistinctTargets.{one_copy}
use Rattle.laws_of_rounds.proofs.DuringObedience.{IsUnspoilt, IsSafe, StaysIntact, StaysUsable, copy_arrives, same_after_copy, same_after_round, replaced_is, live_now, step_unspoilt, step_usable, there_before, through}

-- Events.

split_events : (N : State) (front back : List Event) (e : Event) → after_events N (front ++ e ∷ back) ≡ after_events (after_event (after_events N front) e) back
split_events N [] back e = refl
split_events N (x ∷ front) back e = split_events (after_event N x) front back e

each_front : {X : Type 0} (P : X → Type 0) (front back : List X) (x : X) → Each P (front ++ x ∷ back) → Each P front
each_front P [] back x each = tt
each_front P (y ∷ front) back x each = (each.0, each_front P front back x each.1)

each_back : {X : Type 0} (P : X → Type 0) (front back : List X) (x : X) → Each P (front ++ x ∷ back) → Each P back
each_back P [] back x each = each.1
each_back P (y ∷ front) back x each = each_back P front back x each.1

module _ (M : State) (t : Transfer) (h : IsTransferCommanded M t) where
  abbrev at_target : ReplicaId
  at_target = replica_at t.block t.target

  none_there : is_some (get M.holdings.replicas at_target) ≡ true → ⊥
  none_there there = let at = commanded_chosen M t h in (fresh_node M at.0 at.1 t at.2).no_replica t.target there refl

  target_staying : is_draining M.cluster t.target ≡ false
  target_staying = let at = commanded_chosen M t h in (fresh_node M at.0 at.1 t at.2).not_draining

  target_unspoilt : IsUnspoilt (after_round M).holdings at_target
  target_unspoilt = by_marks (get (after_round M).holdings.replicas at_target) refl
    where
      by_marks : (o : Option Marks) → get (after_round M).holdings.replicas at_target ≡ o → option_map_or is_usable o true ≡ true
      by_marks None e = refl
      by_marks (Some m) e = absurd (none_there (there_before M at_target m e))

  target_safe : IsSafe M at_target
  target_safe = record {
    not_deleted = λ k.
        let was = not_ordered M at_target (tested M at_target k) in
        none_there (is_there (get M.holdings.replicas at_target) was.0 was.1);
    not_replaced = λ u k. false_from_ne_true (replaces M.cluster (replica_at u.block u.target) at_target) (λ e.
        let is = replaced_is M.cluster (replica_at u.block u.target) at_target e in
        let one : t ≡ u = one_copy M t u h k (eqb-true t.block u.block is.0) is.1 in
        true≢false (sym (same_again t.target) ∙ ap (λ (x : Transfer). t.target == x.target) one ∙ is.2));
  }

  arrives_and_stays : (front back : List Event) → Each (Obeys M) (front ++ copied t ∷ back) → StaysUsable M at_target (after_obeying M (front ++ copied t ∷ back))
  arrives_and_stays front back each =
      let N : State = after_obeying M front in
      let before : StaysIntact M at_target N = through M (StaysIntact M at_target) (step_unspoilt M at_target) (after_round M)
      (same_after_round M, target_unspoilt) front (each_front (Obeys M) front back (copied t) each) in
      subst (StaysUsable M at_target) (sym (split_events (after_round M) front back (copied t)))
      (through M (StaysUsable M at_target) (step_usable M at_target target_safe) (after_event N (copied t)) (same_after_copy M N before.0 t, copy_arrives M N before.0 t h before.1) back
      (each_back (Obeys M) front back (copied t) each))

  pub target_live : (es : List Event) → Each (Obeys M) es → IsAmong es (copied t) → has (live_obeying M es t.block) t.target ≡ true
  target_live es each at =
      let end : StaysUsable M at_target (after_obeying M es) =
      subst (λ xs. StaysUsable M at_target (after_obeying M xs)) (sym at.2) (arrives_and_stays at.0 at.1 (subst (Each (Obeys M)) at.2 each)) in
      live_now (after_obeying M es).cluster (after_obeying M es).holdings t.block t.target end.1 (ap (λ C. is_draining C t.target) end.0.cluster ∙ target_staying)
