-- Calls whose numbers fit their types lead to lawful states.
use Rattle.std.specs.Prelude.{◌≡◌, IsTrue, IsSome, List, None}
use Rattle.bm_base.specs.declared.replica.ReplicaId.{ReplicaId}
use Rattle.bm_base.specs.Words.{get, State, first_state_within, are_allowed, refusal_of, round_refusal, whole_round, step, after_event, count_call, state_after, is_refused, MayAnswerAll, state_after_answers}
use Rattle.bm_base.specs.declared.config.Config.{Config}
use Rattle.bm_base.specs.declared.limits.Limits.{Limits}
use Rattle.bm_base.specs.declared.event.Event.{Event}
use Rattle.bm_base.specs.declared.call.Call.{Call}
use Rattle.bm_base.specs.declared.call.Answer.{Answer}
use Rattle.bm_base.specs.Promises.Lawful.{IsLawful, IsOrderly}
use Rattle.bm_base.specs.Promises.Fitting.{HasFittingStart, FitsEvent, FitsCall, FitCalls}

-- The first state within allowed limits of every configuration whose first numbers fit is lawful,
-- even if the configuration is not allowed.
abbrev pub first_state_is_lawful : Type 0
first_state_is_lawful = (l : Limits) (c : Config) → IsTrue (are_allowed l) → HasFittingStart c → IsLawful (first_state_within l c)

-- an accepted event whose numbers fit keeps a lawful state lawful
abbrev pub event_keeps_lawful : Type 0
event_keeps_lawful = (M : State) (e : Event) → IsLawful M → FitsEvent e → refusal_of M e ≡ None → IsLawful (after_event M e)

-- an accepted round keeps a lawful state lawful
abbrev pub round_keeps_lawful : Type 0
round_keeps_lawful = (M : State) → IsLawful M → round_refusal M ≡ None → IsLawful (count_call (whole_round M).1)

-- a refused call keeps the state
abbrev pub refusal_leaves_state : Type 0
refusal_leaves_state = (M : State) (k : Call) → IsTrue (is_refused (step M k).0) → (step M k).1 ≡ M

-- any call whose numbers fit keeps a lawful state lawful
abbrev pub call_keeps_lawful : Type 0
call_keeps_lawful = (M : State) (k : Call) → IsLawful M → FitsCall k → IsLawful (step M k).1

-- calls whose numbers fit lead to a lawful state, if memory never runs out
abbrev pub calls_lead_to_lawful : Type 0
calls_lead_to_lawful =
    (l : Limits) (c : Config) (ks : List Call) → IsTrue (are_allowed l) → HasFittingStart c → FitCalls ks → IsLawful (state_after (first_state_within l c) ks)

-- calls whose numbers fit lead to a lawful state with any answers that they may give, out of memory
-- included
abbrev pub answered_calls_lead_to_lawful : Type 0
answered_calls_lead_to_lawful =
    (l : Limits) (c : Config) (ks : List Call) (answers : List Answer) → IsTrue (are_allowed l) → HasFittingStart c → FitCalls ks → MayAnswerAll (first_state_within l c) ks answers
    → IsLawful (state_after_answers (first_state_within l c) ks answers)

-- Whatever the limits, and whatever numbers calls bring, they lead to a state that is lawful but
-- for the sizes of its numbers.

abbrev pub calls_lead_to_orderly : Type 0
calls_lead_to_orderly = (l : Limits) (c : Config) (ks : List Call) → IsOrderly (state_after (first_state_within l c) ks)

abbrev pub answered_calls_lead_to_orderly : Type 0
answered_calls_lead_to_orderly =
    (l : Limits) (c : Config) (ks : List Call) (answers : List Answer) → MayAnswerAll (first_state_within l c) ks answers → IsOrderly (state_after_answers (first_state_within l c) ks answers)

-- the target of a pending transfer has no replica of the block, of any tag
abbrev pub IsStillToCome : State → Type 0
IsStillToCome M = (p : ReplicaId) → IsSome (get M.holdings.pending p) → get M.holdings.replicas p ≡ None

abbrev pub transfers_are_still_to_come : Type 0
transfers_are_still_to_come = (l : Limits) (c : Config) (ks : List Call) → IsStillToCome (state_after (first_state_within l c) ks)
