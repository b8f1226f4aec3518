-- Laws of the commands of nodes, and of their effect on the state.
use Rattle.std.specs.Prelude.{◌≡◌, ◌+◌, ◌<◌, ◌⊎◌, true, false, List, ◌∷◌, ◌++◌, length, Some, option_map}
use Rattle.std.specs.List.{All}
use Rattle.bm_base.specs.declared.replica.ReplicaId.{ReplicaId}
use Rattle.bm_base.specs.declared.replica.Marks.{Marks}
use Rattle.bm_base.specs.declared.replica.Level.TheVariants.{Highest}
use Rattle.bm_base.specs.declared.commands.Transfer.{Transfer}
use Rattle.bm_base.specs.Words.{get, State, replica_at, node_of, drains, level, state_at_choice, whole_round}
use Rattle.bm_base.specs.Promises.NextRound.{IsAmong, IsDeleteCommanded, IsTransferCommanded, transfers_chosen, after_round}

-- each node is commanded transfers from its own storages and deletes on its own storages
abbrev pub EachNodeItsOwn : Type 0
EachNodeItsOwn =
    (M : State) → All (λ k. All (λ t. node_of M.cluster t.source ≡ Some k.node) k.transfers × All (λ d. node_of M.cluster d.storage ≡ Some k.node) k.deletes) (whole_round M).0.nodes

-- if a node does not drain, transfers of blocks at other levels than the highest are among its
-- first two
abbrev pub FirstTwoOfANode : Type 0
FirstTwoOfANode =
    (M : State) → All (λ k. drains M.cluster k.node ≡ false → (front back : List Transfer) (t : Transfer) → k.transfers ≡ front ++ t ∷ back
    → (level M.cluster (state_at_choice M).holdings t.block ≡ Some Highest) ⊎ (length front < 2)) (whole_round M).0.nodes

-- a round commands each transfer that it chooses
abbrev pub ChosenTransferIsCommanded : State → Type 0
ChosenTransferIsCommanded M = (t : Transfer) → IsAmong (transfers_chosen M) t → IsTransferCommanded M t

-- a delete that a round commands is ordered after the round
abbrev pub CommandedDeleteIsOrdered : Type 0
CommandedDeleteIsOrdered =
    (M : State) (q : ReplicaId) → IsDeleteCommanded M q → (m : Marks) × (get (after_round M).holdings.replicas q ≡ Some m) × (m.ordered ≡ true)

-- if a delete was not ordered before a round and is after it, the round commanded it
abbrev pub OrderedIsCommanded : Type 0
OrderedIsCommanded =
    (M : State) (q : ReplicaId) (m n : Marks) → get M.holdings.replicas q ≡ Some m → m.ordered ≡ false
    → get (after_round M).holdings.replicas q ≡ Some n → n.ordered ≡ true → IsDeleteCommanded M q

-- a transfer that a round commands is pending after the round, with the round's number
abbrev pub CommandedTransferIsPending : Type 0
CommandedTransferIsPending =
    (M : State) (t : Transfer) → IsTransferCommanded M t → get (after_round M).holdings.pending (replica_at t.block t.target) ≡ Some (M.round + 1)

-- A round changes the marks of replicas, the pending transfers and the round number. It changes no
-- tag, no block and no node.
abbrev pub RoundChangesNoTag : Type 0
RoundChangesNoTag = (M : State) (q : ReplicaId) → option_map (λ m. m.tag) (get (after_round M).holdings.replicas q) ≡ option_map (λ m. m.tag) (get M.holdings.replicas q)

abbrev pub RoundKeepsTheRest : Type 0
RoundKeepsTheRest =
    (M : State) → ((after_round M).cluster ≡ M.cluster) × ((after_round M).holdings.blocks ≡ M.holdings.blocks) × ((after_round M).limits ≡ M.limits)
    × ((after_round M).round ≡ M.round + 1) × ((after_round M).calls ≡ M.calls)
