-- Calls lead to orderly states, whatever the limits, and whatever numbers they bring.
use Rattle.std.proofs.Common.{◌≡◌, Option, Some, None, List, [], ◌∷◌, refl}
use Rattle.bm_base.specs.declared.config.Config.{Config}
use Rattle.bm_base.specs.declared.limits.Limits.{Limits}
use Rattle.bm_base.specs.declared.refusal.Refusal.{Refusal}
use Rattle.bm_base.specs.declared.call.Call.{Call}
use Rattle.bm_base.specs.declared.call.Call.TheVariants as call
use Rattle.bm_base.specs.declared.call.Answer.{Answer}
use Rattle.bm_base.specs.Words.{State, first_state_within, refusal_of, round_refusal, node_refusal, storage_refusal, block_refusal, whole_round, step, refused_or, count_call, state_after}
use Rattle.bm_base.specs.Promises.Lawful.{IsOrderly}
use Rattle.laws_of_states.proofs.FirstState.{first_orderly}
use Rattle.laws_of_states.proofs.LawfulRounds.{round_orderly}
use Rattle.laws_of_states.proofs.AcceptedEvents.{event_orderly}

-- P holds of the state after a call if it holds before, and after the call if nothing refuses it
pub by_refusal : (P : State → Type 0) (M : State) (o : Option Refusal) (next : Answer × State) → P M → (o ≡ None → P next.1) → P (refused_or M o next).1
by_refusal P M None next L h = h refl
by_refusal P M (Some r) next L h = L

round_counted : (M : State) → IsOrderly M → IsOrderly (count_call (whole_round M).1)
round_counted M L = let O = round_orderly M L in record { cluster = O.cluster; holdings = O.holdings; commanded = O.commanded }

pub step_orderly : (M : State) (k : Call) → IsOrderly M → IsOrderly (step M k).1
unfolding step
step_orderly M (call.Apply e) L = by_refusal IsOrderly M (refusal_of M e) _ L (event_orderly M e L)
step_orderly M call.Round L = by_refusal IsOrderly M (round_refusal M) _ L (λ _. round_counted M L)
step_orderly M call.Replicas L = L
step_orderly M call.Corrupt L = L
step_orderly M call.Excess L = L
step_orderly M call.Missing L = L
step_orderly M (call.BlocksOn s) L = by_refusal IsOrderly M (storage_refusal M.cluster s) _ L (λ _. L)
step_orderly M (call.Places b) L = by_refusal IsOrderly M (block_refusal M.holdings b) _ L (λ _. L)
step_orderly M (call.LevelOf b) L = by_refusal IsOrderly M (block_refusal M.holdings b) _ L (λ _. L)
step_orderly M (call.Retired n) L = by_refusal IsOrderly M (node_refusal M.cluster n) _ L (λ _. L)
step_orderly M call.Calls L = L
step_orderly M call.Rounds L = L

orderly_after : (M : State) (ks : List Call) → IsOrderly M → IsOrderly (state_after M ks)
orderly_after M [] L = L
orderly_after M (k ∷ ks) L = orderly_after (step M k).1 ks (step_orderly M k L)

pub calls_orderly : (l : Limits) (c : Config) (ks : List Call) → IsOrderly (state_after (first_state_within l c) ks)
calls_orderly l c ks = orderly_after (first_state_within l c) ks (first_orderly l c)
