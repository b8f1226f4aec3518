-- What a call may answer if it can run out of memory: definitions for contracts.
use Rattle.std.specs.Prelude.{◌≡◌, Bool, true, false, not, ◌&&◌, if◌then◌else◌, ◌⊎◌, IsTrue, List, [], ◌∷◌, Option, Some, None, Result, Ok, Err, IfOk, IfSome}
use Rattle.bm_base.specs.declared.event.Event.{Event}
use Rattle.bm_base.specs.declared.event.Event.TheVariants.{Heartbeat, DeleteBlock, SetReplication, Restamp, Deleted, Corrupt}
use Rattle.bm_base.specs.declared.refusal.Refusal.{Refusal}
use Rattle.bm_base.specs.declared.refusal.Refusal.TheVariants.{Memory}
use Rattle.bm_base.specs.declared.call.Call.{Call}
use Rattle.bm_base.specs.declared.call.Call.TheVariants as call
use Rattle.bm_base.specs.declared.call.Answer.{Answer}
use Rattle.bm_base.specs.declared.call.Answer.TheVariants as answer
use Rattle.bm_base.specs.Machine.State.{State}
use Rattle.bm_base.specs.Machine.Calls.{step}

-- a check's result: the refusal, if there is one
abbrev pub checked : Option Refusal → Result (Unit {0}) Refusal
checked None = Ok tt
checked (Some r) = Err r

-- How a call may be refused: by the definition's refusal; if there is none, by `Memory`, if the
-- call takes memory; else not at all.
abbrev pub Refuses : Option Refusal → Bool → Refusal → Type 0
Refuses (Some first) takes r = r ≡ first
Refuses None true r = r ≡ Memory
Refuses None false r = ⊥

-- P holds of what was found; if nothing was found, or the call was out of memory, it states nothing
abbrev pub IfFound : {A E : Type 0} → Result (Option A) E → (A → Type 0) → Type 0
IfFound result P = IfOk result (λ found. IfSome found P)

-- whether an answer is "out of memory"
abbrev pub is_out_of_memory : Answer → Bool
is_out_of_memory (answer.Refused Memory) = true
is_out_of_memory _ = false

-- whether an event takes memory: if nothing else refuses it, it may run out of memory
abbrev pub takes_memory : Event → Bool
takes_memory (Heartbeat n rs) = false
takes_memory (DeleteBlock b) = false
takes_memory (SetReplication b repl) = false
takes_memory (Restamp b stamp) = false
takes_memory (Deleted s b) = false
takes_memory (Corrupt s b) = false
takes_memory _ = true

-- whether a call takes memory
abbrev pub call_takes_memory : Call → Bool
call_takes_memory (call.Apply e) = takes_memory e
call_takes_memory (call.LevelOf b) = false
call_takes_memory (call.Retired n) = false
call_takes_memory call.Calls = false
call_takes_memory call.Rounds = false
call_takes_memory _ = true

abbrev pub is_refused : Answer → Bool
is_refused (answer.Refused r) = true
is_refused _ = false

-- whether a call may run out of memory: it takes some, and nothing else refuses it
abbrev pub may_run_out_of_memory : State → Call → Bool
may_run_out_of_memory M k = call_takes_memory k && not (is_refused (step M k).0)

-- An answer that a call may give in a state: that of the definition, or out of memory if the call
-- may run out of it.
abbrev pub MayAnswer : State → Call → Answer → Type 0
MayAnswer M k a =
    (a ≡ (step M k).0) ⊎ (IsTrue (may_run_out_of_memory M k) × (a ≡ answer.Refused Memory))

-- the state after a call that gave this answer: after out of memory the same state
abbrev pub state_after_answer : State → Call → Answer → State
state_after_answer M k a = if is_out_of_memory a then M else (step M k).1

-- the answers that a list of calls may give, and the state that they leave
abbrev pub MayAnswerAll : State → List Call → List Answer → Type 0
MayAnswerAll M [] [] = Unit {0}
MayAnswerAll M (k ∷ ks) (a ∷ rest) =
    MayAnswer M k a × MayAnswerAll (state_after_answer M k a) ks rest
MayAnswerAll M [] (a ∷ rest) = ⊥
MayAnswerAll M (k ∷ ks) [] = ⊥

abbrev pub state_after_answers : State → List Call → List Answer → State
state_after_answers M (k ∷ ks) (a ∷ rest) = state_after_answers (state_after_answer M k a) ks rest
state_after_answers M _ _ = M
