-- The state after each kind of call.
use Rattle.std.specs.Prelude.{◌≡◌, ◌+◌, Bool, true, false, IsTrue, option_map, None}
use Rattle.bm_base.specs.declared.replica.ReplicaId.{ReplicaId}
use Rattle.bm_base.specs.declared.event.Event.{Event}
use Rattle.bm_base.specs.declared.call.Call.{Call}
use Rattle.bm_base.specs.declared.call.Call.TheVariants as call
use Rattle.bm_base.specs.declared.call.Answer.{Answer}
use Rattle.bm_base.specs.Words.{get, State, refusal_of, round_refusal, step, MayAnswer, is_refused, state_after_answer}

abbrev pub is_query : Call → Bool
is_query (call.Apply e) = false
is_query call.Round = false
is_query _ = true

abbrev pub query_leaves_state : Type 0
query_leaves_state = (M : State) (k : Call) → IsTrue (is_query k) → (step M k).1 ≡ M

-- one more call is counted, and the configured limits stay
pub record IsCounted (M N : State) : Type 0 where
  pub calls : N.calls ≡ M.calls + 1
  pub limits : N.limits ≡ M.limits

-- an accepted event is counted, and keeps the round number
abbrev pub event_is_counted : Type 0
event_is_counted = (M : State) (e : Event) → refusal_of M e ≡ None → IsCounted M (step M (call.Apply e)).1 × ((step M (call.Apply e)).1.round ≡ M.round)

-- a round keeps the cluster and the blocks, and no replica comes, goes or gets another tag
pub record IsNextRound (M N : State) : Type 0 where
  pub counted : IsCounted M N
  pub round : N.round ≡ M.round + 1
  pub cluster : N.cluster ≡ M.cluster
  pub blocks : N.holdings.blocks ≡ M.holdings.blocks
  pub tags : (p : ReplicaId) → option_map (λ m. m.tag) (get N.holdings.replicas p) ≡ option_map (λ m. m.tag) (get M.holdings.replicas p)

abbrev pub round_is_counted : Type 0
round_is_counted = (M : State) → round_refusal M ≡ None → IsNextRound M (step M call.Round).1

-- no call, refused or not, changes how many nodes and storages the cluster may have
abbrev pub call_leaves_cluster_limits : Type 0
call_leaves_cluster_limits = (M : State) (k : Call) → (step M k).1.cluster.limits ≡ M.cluster.limits

-- If memory is limited: a refusal of any kind keeps the state, and any other answer, with the next
-- state, is the step's.

abbrev pub refused_answer_leaves_state : Type 0
refused_answer_leaves_state = (M : State) (k : Call) (a : Answer) → MayAnswer M k a → IsTrue (is_refused a) → state_after_answer M k a ≡ M

abbrev pub other_answer_is_the_steps : Type 0
other_answer_is_the_steps = (M : State) (k : Call) (a : Answer) → MayAnswer M k a → is_refused a ≡ false → (a ≡ (step M k).0) × (state_after_answer M k a ≡ (step M k).1)
