-- A manager's state is lawful at its start, after each accepted event and after each round.
use Rattle.std.proofs.Common.{◌≡◌, ℕ, ◌+◌, ◌<◌, None, sym, ap, subst, ◌∙◌}
use Rattle.std.specs.Prelude.{IsTrue}
use Rattle.bm_base.specs.declared.config.Config.{Config}
use Rattle.bm_base.specs.declared.limits.Limits.{Limits}
use Rattle.bm_base.specs.declared.event.Event.{Event}
use Rattle.bm_base.specs.Words.{Cluster, are_allowed, limits_of, empty_cluster, empty_holdings, change_cluster, change_holdings, refusal_of, last_number, config_refusal, after_event}
use Rattle.bm_base.specs.Promises.Lawful.{IsLawful}
use Rattle.bm_base.specs.Promises.Fitting.{FitsEvent, HasFittingStart}
use Rattle.laws_of_states.proofs.FirstState.{first_lawful}
use Rattle.laws_of_states.proofs.AcceptedEvents.{event_lawful}
use Rattle.laws_of_states.proofs.LawfulRounds.{round_lawful}
use Rattle.bm_shards.specs.Whole.{Whole, IsUpToDate, HasTaken}
use Rattle.bm_shards.specs.Rounds.{left_by_round}
use Rattle.bm_manager.specs.Managers.{IsManager, state_of}
use Rattle.bm_manager.proofs.ManagerRounds.{whole_state}
use Rattle.bm_manager.proofs.Checks.{round_passed}

-- at the beginning
pub new_manager : (l : Limits) (c : Config) (C : Cluster) (F : Whole) → config_refusal c ≡ None → IsTrue (are_allowed l) → HasFittingStart c → C ≡ empty_cluster l → F.holdings ≡ empty_holdings
    → IsUpToDate C F → HasTaken c.first_round c.pend F → IsManager c C F c.first_round c.first_call
new_manager l c C F allowed allowed_limits fits none nothing up_to_date taken = record {
  allowed = allowed;
  up_to_date = up_to_date;
  taken = taken;
  lawful = subst IsLawful (λ i. state_of c (sym none i) (sym nothing i) c.first_round c.first_call) (first_lawful l c allowed_limits fits);
}

module _ (c : Config) (C : Cluster) (F : Whole) (round calls : ℕ) (is : IsManager c C F round calls) where
  -- after an accepted event, by which the cluster and the shards were changed one after the other
  pub changed_manager : (e : Event) (D E : Cluster) (G : Whole) → FitsEvent e → refusal_of (state_of c C F.holdings round calls) e ≡ None
      → D ≡ C → E ≡ change_cluster D e → G.holdings ≡ change_holdings D F.holdings e → IsUpToDate (change_cluster D e) G → HasTaken round c.pend G
      → IsManager c E G round (calls + 1)
  unfolding after_event
  changed_manager e D E G fits none same after left up_to_date taken =
      let M = state_of c C F.holdings round calls in
      let cluster : change_cluster C e ≡ E = sym (after ∙ ap (λ X. change_cluster X e) same) in
      let holdings : change_holdings C F.holdings e ≡ G.holdings = sym (left ∙ ap (λ X. change_holdings X F.holdings e) same) in
      record {
        allowed = is.allowed;
        up_to_date = subst (λ X. IsUpToDate X G) (sym after) up_to_date;
        taken = taken;
        lawful = subst IsLawful (λ i. state_of c (cluster i) (holdings i) round (calls + 1)) (event_lawful M e is.lawful fits none);
      }

  -- after a round
  pub next_manager : (G : Whole) → round < last_number → calls < last_number
      → G.holdings ≡ left_by_round (limits_of c) C (round + 1) F.holdings → IsUpToDate C G → HasTaken (round + 1) c.pend G
      → IsManager c C G (round + 1) (calls + 1)
  next_manager G rounds_left calls_left left up_to_date taken =
      let M = state_of c C F.holdings round calls in
      record {
        allowed = is.allowed;
        up_to_date = up_to_date;
        taken = taken;
        lawful = subst IsLawful (sym (whole_state M G.holdings left)) (round_lawful M is.lawful (round_passed M rounds_left calls_left));
      }
