-- The answer of each call and the state after it are those of the definition's step, or the call
-- was out of memory.
use Rattle.std.proofs.Common.{◌≡◌, ℕ, Bool, true, false, Option, Some, None, refl, sym, ap, ◌∙◌, inl, inr}
use Rattle.std.specs.Prelude.{not, ◌&&◌, if◌then◌else◌}
use Rattle.bm_base.specs.declared.event.Event.{Event}
use Rattle.bm_base.specs.declared.refusal.Refusal.{Refusal}
use Rattle.bm_base.specs.declared.refusal.Refusal.TheVariants.{Memory}
use Rattle.bm_base.specs.declared.call.Call.{Call}
use Rattle.bm_base.specs.declared.call.Call.TheVariants as call
use Rattle.bm_base.specs.declared.call.Answer.{Answer}
use Rattle.bm_base.specs.declared.call.Answer.TheVariants as answer
use Rattle.bm_base.specs.Words.{State, level, all_replicas, corrupt_replicas, excess_replicas, missing_blocks, blocks_on, places, is_retired, step, refused_or, done_by, after_event, count_call, refusal_of, round_refusal, node_refusal, storage_refusal, block_refusal, whole_round, Refuses, MayAnswer, state_after_answer, call_takes_memory, is_refused, is_out_of_memory}

-- a call whose definition refuses by o, and else answers x.0 with next state x.1
module _ (M : State) (k : Call) (o : Option Refusal) (x : Answer × State) (s : step M k ≡ refused_or M o x) where
  pub ok_answer : (a : Answer) → o ≡ None → a ≡ x.0 → MayAnswer M k a
  ok_answer a none is = inl (is ∙ sym (ap (λ y. y.0) (s ∙ ap (λ q. refused_or M q x) none)))

  pub ok_left : (N : State) → o ≡ None → N ≡ x.1 → N ≡ (step M k).1
  ok_left N none is = is ∙ sym (ap (λ y. y.1) (s ∙ ap (λ q. refused_or M q x) none))

  err_answer_by : (q : Option Refusal) (b : Bool) → o ≡ q → call_takes_memory k ≡ b → (r : Refusal) → is_refused x.0 ≡ false → Refuses q b r → MayAnswer M k (answer.Refused r)
  err_answer_by None true e may r fine h =
      inr ((λ i. may i && not (is_refused (s i).0)) ∙ ap (λ p. not (is_refused (refused_or M p x).0)) e ∙ ap not fine, ap answer.Refused h)
  err_answer_by None false e may r fine h = absurd h
  err_answer_by (Some t) b e may r fine h = inl (ap answer.Refused h ∙ sym (ap (λ y. y.0) (s ∙ ap (λ p. refused_or M p x) e)))

  pub err_answer : (r : Refusal) → is_refused x.0 ≡ false → Refuses o (call_takes_memory k) r → MayAnswer M k (answer.Refused r)
  err_answer r fine h = err_answer_by o (call_takes_memory k) refl refl r fine h

  same_either : (b : Bool) (y : State) → y ≡ M → M ≡ (if b then M else y)
  same_either true y e = refl
  same_either false y e = sym e

  err_left_by : (q : Option Refusal) (b : Bool) → o ≡ q → (r : Refusal) → Refuses q b r → M ≡ state_after_answer M k (answer.Refused r)
  err_left_by None true e r h = ap (λ t. state_after_answer M k (answer.Refused t)) (sym h)
  err_left_by None false e r h = absurd h
  err_left_by (Some t) b e r h = same_either (is_out_of_memory (answer.Refused r)) (step M k).1 (ap (λ y. y.1) (s ∙ ap (λ p. refused_or M p x) e))

  pub err_left : (N : State) (r : Refusal) → Refuses o (call_takes_memory k) r → N ≡ M → N ≡ state_after_answer M k (answer.Refused r)
  err_left N r h is = is ∙ err_left_by o (call_takes_memory k) refl r h

-- a call that the definition never refuses: its answer, and out of memory
pub step_answer : (M : State) (k : Call) (a : Answer) (x : Answer × State) → step M k ≡ x → a ≡ x.0 → MayAnswer M k a
step_answer M k a x s is = inl (is ∙ sym (ap (λ y. y.0) s))

pub memory_answer : (M : State) (k : Call) (x : Answer × State) → step M k ≡ x → call_takes_memory k ≡ true → is_refused x.0 ≡ false → {r : Refusal} → r ≡ Memory
    → MayAnswer M k (answer.Refused r)
memory_answer M k x s may fine e = inr ((λ i. may i && not (is_refused (s i).0)) ∙ ap not fine, ap answer.Refused e)

pub step_apply : (M : State) (e : Event) → step M (call.Apply e) ≡ refused_or M (refusal_of M e) (answer.Done (done_by M e), after_event M e)
unfolding step
step_apply M e = refl

pub step_round : (M : State) → step M call.Round ≡ refused_or M (round_refusal M) (answer.Commanded (whole_round M).0, count_call (whole_round M).1)
unfolding step
step_round M = refl

pub step_replicas : (M : State) → step M call.Replicas ≡ refused_or M None (answer.Replicas (all_replicas M.holdings), M)
unfolding step
step_replicas M = refl

pub step_corrupt : (M : State) → step M call.Corrupt ≡ refused_or M None (answer.ReplicaIds (corrupt_replicas M.holdings), M)
unfolding step
step_corrupt M = refl

pub step_excess : (M : State) → step M call.Excess ≡ refused_or M None (answer.ReplicaIds (excess_replicas M.holdings), M)
unfolding step
step_excess M = refl

pub step_blocks_on : (M : State) (s : ℕ) → step M (call.BlocksOn s) ≡ refused_or M (storage_refusal M.cluster s) (answer.Blocks (blocks_on M.holdings s), M)
unfolding step
step_blocks_on M s = refl

pub step_missing : (M : State) → step M call.Missing ≡ refused_or M None (answer.Blocks (missing_blocks M.cluster M.holdings), M)
unfolding step
step_missing M = refl

pub step_places : (M : State) (b : ℕ) → step M (call.Places b) ≡ refused_or M (block_refusal M.holdings b) (answer.Storages (places M.holdings b), M)
unfolding step
step_places M b = refl

pub step_level : (M : State) (b : ℕ) → step M (call.LevelOf b) ≡ refused_or M (block_refusal M.holdings b) (answer.LevelIs (level M.cluster M.holdings b), M)
unfolding step
step_level M b = refl

pub step_retired : (M : State) (n : ℕ) → step M (call.Retired n) ≡ refused_or M (node_refusal M.cluster n) (answer.IsRetired (is_retired M.cluster M.holdings n), M)
unfolding step
step_retired M n = refl

pub step_calls : (M : State) → step M call.Calls ≡ (answer.Number M.calls, M)
unfolding step
step_calls M = refl

pub step_rounds : (M : State) → step M call.Rounds ≡ (answer.Number M.round, M)
unfolding step
step_rounds M = refl
