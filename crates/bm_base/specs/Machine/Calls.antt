-- The answer of each call and the next state, with unlimited memory; and lists of calls.
use Rattle.std.specs.Prelude.{ℕ, ◌+◌, not, List, [], ◌∷◌, count_by, Option, Some, None}
use Rattle.bm_base.specs.declared.replica.Marks.{Marks}
use Rattle.bm_base.specs.declared.event.Done.{Done}
use Rattle.bm_base.specs.declared.event.Event.{Event}
use Rattle.bm_base.specs.declared.refusal.Refusal.{Refusal}
use Rattle.bm_base.specs.declared.call.Call.{Call}
use Rattle.bm_base.specs.declared.call.Call.TheVariants as call
use Rattle.bm_base.specs.declared.call.Answer.{Answer}
use Rattle.bm_base.specs.declared.call.Answer.TheVariants as answer
use Rattle.bm_base.specs.Maps.Map.{Map, contains_key, entries}
use Rattle.bm_base.specs.Machine.State.{Holdings, State, by_replica}
use Rattle.bm_base.specs.Machine.Levels.{level}
use Rattle.bm_base.specs.Machine.Queries.{all_replicas, corrupt_replicas, excess_replicas, missing_blocks, blocks_on, places, is_retired}
use Rattle.bm_base.specs.Machine.Events.{change_holdings, change}
use Rattle.bm_base.specs.Machine.Rounds.{whole_round}
use Rattle.bm_base.specs.Machine.Refusals.{refusal_of, round_refusal, node_refusal, storage_refusal, block_refusal}

-- the number of replicas that `new` has and `old` has not
unfoldable pub new_replicas : Map by_replica Marks → Map by_replica Marks → ℕ
new_replicas old new = count_by (λ e. not (contains_key old e.0)) (entries new)

-- how many replicas came and went between H and G
unfoldable pub done : Holdings → Holdings → Done
done H G = record {
  added = new_replicas H.replicas G.replicas;
  removed = new_replicas G.replicas H.replicas;
}

-- the answer to an event that nothing refuses
unfoldable pub done_by : State → Event → Done
done_by M e = done M.holdings (change_holdings M.cluster M.holdings e)

-- the state with one more accepted call
abbrev pub count_call : State → State
count_call M = record M { calls = M.calls + 1 }

-- the state after an event that nothing refuses
unfoldable pub after_event : State → Event → State
after_event M e = count_call (change M e)

-- if a call is refused, the refusal and the same state; else the given answer and state
abbrev pub refused_or : State → Option Refusal → Answer × State → Answer × State
refused_or M (Some r) next = (answer.Refused r, M)
refused_or M None next = next

-- the answer of a call, and the next state
unfoldable pub step : State → Call → Answer × State
step M (call.Apply e) = refused_or M (refusal_of M e) (answer.Done (done_by M e), after_event M e)
step M call.Round =
    refused_or M (round_refusal M)
    (answer.Commanded (whole_round M).0, count_call (whole_round M).1)
step M call.Replicas = (answer.Replicas (all_replicas M.holdings), M)
step M call.Corrupt = (answer.ReplicaIds (corrupt_replicas M.holdings), M)
step M call.Excess = (answer.ReplicaIds (excess_replicas M.holdings), M)
step M call.Missing = (answer.Blocks (missing_blocks M.cluster M.holdings), M)
step M (call.BlocksOn s) =
    refused_or M (storage_refusal M.cluster s) (answer.Blocks (blocks_on M.holdings s), M)
step M (call.Places b) =
    refused_or M (block_refusal M.holdings b) (answer.Storages (places M.holdings b), M)
step M (call.LevelOf b) =
    refused_or M (block_refusal M.holdings b) (answer.LevelIs (level M.cluster M.holdings b), M)
step M (call.Retired n) =
    refused_or M (node_refusal M.cluster n)
    (answer.IsRetired (is_retired M.cluster M.holdings n), M)
step M call.Calls = (answer.Number M.calls, M)
step M call.Rounds = (answer.Number M.round, M)

-- the answers to a list of calls, one after another
abbrev pub answers : State → List Call → List Answer
answers M [] = []
answers M (k ∷ ks) = (step M k).0 ∷ answers (step M k).1 ks

-- the state after a list of calls
abbrev pub state_after : State → List Call → State
state_after M [] = M
state_after M (k ∷ ks) = state_after (step M k).1 ks
