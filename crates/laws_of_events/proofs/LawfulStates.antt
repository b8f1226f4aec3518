-- Calls lead to lawful states if all numbers fit their types, even where memory runs out.
use Rattle.std.proofs.Common.{◌≡◌, Bool, true, false, IsTrue, if◌then◌else◌, Option, Some, None, List, [], ◌∷◌, refl}
use Rattle.bm_base.specs.declared.config.Config.{Config}
use Rattle.bm_base.specs.declared.limits.Limits.{Limits}
use Rattle.bm_base.specs.declared.refusal.Refusal.{Refusal}
use Rattle.bm_base.specs.declared.call.Call.{Call}
use Rattle.bm_base.specs.declared.call.Call.TheVariants as call
use Rattle.bm_base.specs.declared.call.Answer.{Answer}
use Rattle.bm_base.specs.Words.{State, first_state_within, are_allowed, refusal_of, round_refusal, node_refusal, storage_refusal, block_refusal, step, refused_or, state_after, is_refused, is_out_of_memory, state_after_answer, MayAnswerAll, state_after_answers}
use Rattle.bm_base.specs.Promises.Lawful.{IsLawful, IsOrderly}
use Rattle.bm_base.specs.Promises.Fitting.{HasFittingStart, FitsCall, FitCalls}
use Rattle.bm_base.proofs.ForEach.{Each, each_all}
use Rattle.laws_of_states.proofs.FirstState.{first_lawful, first_orderly}
use Rattle.laws_of_states.proofs.LawfulRounds.{round_lawful}
use Rattle.laws_of_states.proofs.AcceptedEvents.{event_lawful}
use Rattle.laws_of_states.proofs.OrderlyStates.{by_refusal, step_orderly}

pub step_lawful : (M : State) (k : Call) → IsLawful M → FitsCall k → IsLawful (step M k).1
unfolding step
step_lawful M (call.Apply e) L h = by_refusal IsLawful M (refusal_of M e) _ L (event_lawful M e L h)
step_lawful M call.Round L h = by_refusal IsLawful M (round_refusal M) _ L (round_lawful M L)
step_lawful M call.Replicas L h = L
step_lawful M call.Corrupt L h = L
step_lawful M call.Excess L h = L
step_lawful M call.Missing L h = L
step_lawful M (call.BlocksOn s) L h = by_refusal IsLawful M (storage_refusal M.cluster s) _ L (λ _. L)
step_lawful M (call.Places b) L h = by_refusal IsLawful M (block_refusal M.holdings b) _ L (λ _. L)
step_lawful M (call.LevelOf b) L h = by_refusal IsLawful M (block_refusal M.holdings b) _ L (λ _. L)
step_lawful M (call.Retired n) L h = by_refusal IsLawful M (node_refusal M.cluster n) _ L (λ _. L)
step_lawful M call.Calls L h = L
step_lawful M call.Rounds L h = L

left_by_refusal : (M : State) (o : Option Refusal) (a : Answer) (N : State) → (is_refused a ≡ true → N ≡ M) → is_refused (refused_or M o (a, N)).0 ≡ true → (refused_or M o (a, N)).1 ≡ M
left_by_refusal M None a N fine e = fine e
left_by_refusal M (Some r) a N fine e = refl

pub refusal_leaves : (M : State) (k : Call) → is_refused (step M k).0 ≡ true → (step M k).1 ≡ M
unfolding step
refusal_leaves M (call.Apply e) r = left_by_refusal M (refusal_of M e) _ _ (λ no. cc) r
refusal_leaves M call.Round r = left_by_refusal M (round_refusal M) _ _ (λ no. cc) r
refusal_leaves M call.Replicas r = refl
refusal_leaves M call.Corrupt r = refl
refusal_leaves M call.Excess r = refl
refusal_leaves M call.Missing r = refl
refusal_leaves M (call.BlocksOn s) r = left_by_refusal M (storage_refusal M.cluster s) _ _ (λ no. refl) r
refusal_leaves M (call.Places b) r = left_by_refusal M (block_refusal M.holdings b) _ _ (λ no. refl) r
refusal_leaves M (call.LevelOf b) r = left_by_refusal M (block_refusal M.holdings b) _ _ (λ no. refl) r
refusal_leaves M (call.Retired n) r = left_by_refusal M (node_refusal M.cluster n) _ _ (λ no. refl) r
refusal_leaves M call.Calls r = refl
refusal_leaves M call.Rounds r = refl

lawful_after : (M : State) (ks : List Call) → IsLawful M → Each FitsCall ks → IsLawful (state_after M ks)
lawful_after M [] L h = L
lawful_after M (k ∷ ks) L h = lawful_after (step M k).1 ks (step_lawful M k L h.0) h.1

pub lawful_from_first : (l : Limits) (c : Config) (ks : List Call) → IsTrue (are_allowed l) → HasFittingStart c → FitCalls ks → IsLawful (state_after (first_state_within l c) ks)
lawful_from_first l c ks allowed start h = lawful_after (first_state_within l c) ks (first_lawful l c allowed start) (each_all FitsCall ks h)

either_state : (P : State → Type 0) (b : Bool) (M N : State) → P M → P N → P (if b then M else N)
either_state P true M N L K = L
either_state P false M N L K = K

lawful_left : (M : State) (ks : List Call) (answers : List Answer) → IsLawful M → Each FitsCall ks → IsLawful (state_after_answers M ks answers)
lawful_left M [] answers L h = L
lawful_left M (k ∷ ks) [] L h = L
lawful_left M (k ∷ ks) (a ∷ rest) L h = lawful_left (state_after_answer M k a) ks rest (either_state IsLawful (is_out_of_memory a) M (step M k).1 L (step_lawful M k L h.0)) h.1

pub lawful_left_from_first : (l : Limits) (c : Config) (ks : List Call) (answers : List Answer) → IsTrue (are_allowed l) → HasFittingStart c → FitCalls ks → MayAnswerAll (first_state_within l c) ks answers
    → IsLawful (state_after_answers (first_state_within l c) ks answers)
lawful_left_from_first l c ks answers allowed start h may = lawful_left (first_state_within l c) ks answers (first_lawful l c allowed start) (each_all FitsCall ks h)

orderly_left : (M : State) (ks : List Call) (answers : List Answer) → IsOrderly M → IsOrderly (state_after_answers M ks answers)
orderly_left M [] answers L = L
orderly_left M (k ∷ ks) [] L = L
orderly_left M (k ∷ ks) (a ∷ rest) L = orderly_left (state_after_answer M k a) ks rest (either_state IsOrderly (is_out_of_memory a) M (step M k).1 L (step_orderly M k L))

pub orderly_left_from_first : (l : Limits) (c : Config) (ks : List Call) (answers : List Answer) → MayAnswerAll (first_state_within l c) ks answers → IsOrderly (state_after_answers (first_state_within l c) ks answers)
orderly_left_from_first l c ks answers may = orderly_left (first_state_within l c) ks answers (first_orderly l c)
