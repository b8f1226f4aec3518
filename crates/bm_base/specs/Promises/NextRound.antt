-- What a round commands, and the state after it: definitions for the laws.
use Rattle.std.specs.Prelude.{◌≡◌, ℕ, List, ◌∷◌, ◌++◌, flat_map}
use Rattle.bm_base.specs.declared.replica.ReplicaId.{ReplicaId}
use Rattle.bm_base.specs.declared.commands.Transfer.{Transfer}
use Rattle.bm_base.specs.declared.commands.Delete.{Delete}
use Rattle.bm_base.specs.Machine.State.{State}
use Rattle.bm_base.specs.Machine.Replicas.{live, drained}
use Rattle.bm_base.specs.Machine.RoundStart.{state_after_expiry, state_at_choice, without_unordered_excess}
use Rattle.bm_base.specs.Machine.Transfers.{transfers}
use Rattle.bm_base.specs.Machine.Rounds.{whole_round}

-- the deletes that the next round commands, node by node
abbrev pub deletes_commanded : State → List Delete
deletes_commanded M = flat_map (λ k. k.deletes) (whole_round M).0.nodes

abbrev pub transfers_commanded : State → List Transfer
transfers_commanded M = flat_map (λ k. k.transfers) (whole_round M).0.nodes

-- the transfers that the next round chooses, one after another
abbrev pub transfers_chosen : State → List Transfer
transfers_chosen M = let N = state_at_choice M in transfers N.limits N.cluster N.holdings

-- an element is in a list
abbrev pub IsAmong : {X : Type 0} → List X → X → Type 0
IsAmong {X} xs x = (front : List X) × (back : List X) × (xs ≡ front ++ x ∷ back)

-- the next round commands the delete of this replica
abbrev pub IsDeleteCommanded : State → ReplicaId → Type 0
IsDeleteCommanded M q = IsAmong (deletes_commanded M) (record { storage = q.storage; block = q.block })

-- the next round commands this transfer
abbrev pub IsTransferCommanded : State → Transfer → Type 0
IsTransferCommanded M t = IsAmong (transfers_commanded M) t

-- the state after the next round
abbrev pub after_round : State → State
after_round M = (whole_round M).1

-- The state as the next round begins, before it marks: expired transfers have left, and excess
-- replicas without an ordered delete count again.
abbrev pub unmarked : State → State
unmarked M = let N = state_after_expiry M in record N { holdings = without_unordered_excess N.holdings }

-- the live replicas of a block at the three moments of the next round: before it marks, once it has
-- marked, and after it; and the drained ones
abbrev pub live_unmarked : State → ℕ → List ℕ
live_unmarked M b = live M.cluster (unmarked M).holdings b

abbrev pub live_marked : State → ℕ → List ℕ
live_marked M b = live M.cluster (state_at_choice M).holdings b

abbrev pub live_after : State → ℕ → List ℕ
live_after M b = live M.cluster (after_round M).holdings b

abbrev pub drained_unmarked : State → ℕ → List ℕ
drained_unmarked M b = drained M.cluster (unmarked M).holdings b

abbrev pub drained_marked : State → ℕ → List ℕ
drained_marked M b = drained M.cluster (state_at_choice M).holdings b

abbrev pub drained_after : State → ℕ → List ℕ
drained_after M b = drained M.cluster (after_round M).holdings b
