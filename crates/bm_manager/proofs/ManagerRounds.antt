-- A round of all shards is the manager's round, and deletes no last good replica of a known block.
use Rattle.std.proofs.Common.{◌≡◌, ◌+◌, Result, Ok, Err, refl, sym, ap, subst, ◌∙◌}
use Rattle.std.specs.Prelude.{IfOk, OnOk}
use Rattle.bm_base.specs.declared.refusal.Refusal.{Refusal}
use Rattle.bm_base.specs.declared.commands.Commands.{Commands}
use Rattle.bm_base.specs.Words.{Holdings, State, state_after_expiry, state_at_choice, whole_round, count_call}
use Rattle.bm_base.specs.RoundParts.{holdings_at_choice}
use Rattle.bm_base.specs.Promises.Lawful.{IsLawful}
use Rattle.bm_base.specs.Promises.Sparing.{SparesLastGood, KeepsEnoughLive}
use Rattle.laws_of_states.proofs.LawfulRounds.{orderly}
use Rattle.laws_of_states.proofs.LastGood.{round_spares, round_keeps}
use Rattle.bm_shards.specs.Rounds.{commands_in, left_by_round}

pub whole_commands : (M : State) → commands_in M.limits M.cluster (M.round + 1) M.holdings ≡ (whole_round M).0
unfolding whole_round state_at_choice state_after_expiry holdings_at_choice
whole_commands M = refl

its_state : (M : State) → record M {
  round = M.round + 1;
  holdings = left_by_round M.limits M.cluster (M.round + 1) M.holdings;
  calls = M.calls + 1;
} ≡ count_call (whole_round M).1
unfolding whole_round state_at_choice state_after_expiry holdings_at_choice
its_state M = refl

pub whole_state : (M : State) (G : Holdings) → G ≡ left_by_round M.limits M.cluster (M.round + 1) M.holdings
    → record M { round = M.round + 1; holdings = G; calls = M.calls + 1 } ≡ count_call (whole_round M).1
whole_state M G is = ap (λ X. record M { round = M.round + 1; holdings = X; calls = M.calls + 1 }) is ∙ its_state M

-- What a round's deletes leave, of its commands and of the state after it.

pub spares : (M : State) (r : Result Commands Refusal) → IsLawful M → IfOk r (λ k. k ≡ (whole_round M).0) → IfOk r (λ k. SparesLastGood M k)
spares M (Ok k) L is = subst (SparesLastGood M) (sym is) (round_spares M (orderly M L))
spares M (Err e) L is = is

pub keeps : (M N : State) (r : Result Commands Refusal) → IsLawful M → IfOk r (λ k. k ≡ (whole_round M).0) → OnOk r (N ≡ count_call (whole_round M).1)
    → IfOk r (λ k. KeepsEnoughLive M k N)
keeps M N (Ok k) L is left = subst (λ (x : Commands × State). KeepsEnoughLive M x.0 x.1) (λ i. (sym is i, sym left i)) (round_keeps M (orderly M L))
keeps M N (Err e) L is left = is
