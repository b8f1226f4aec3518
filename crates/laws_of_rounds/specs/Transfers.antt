-- Laws of transfers. A round chooses transfers one after another; `front` are those chosen before
-- one, `back` those after it.
use Rattle.std.specs.Prelude.{◌≡◌, ℕ, ◌+◌, ◌*◌, ◌≤◌, ◌⊎◌, ◌==◌, true, false, if◌then◌else◌, List, ◌∷◌, ◌++◌, length, sum_by, count_by, Some, IsSome, ◌<◌}
use Rattle.std.specs.List.{All}
use Rattle.bm_base.specs.declared.replica.BlockInfo.{BlockInfo}
use Rattle.bm_base.specs.declared.replica.Level.{Level}
use Rattle.bm_base.specs.declared.replica.Level.TheVariants.{BadlyDistributed}
use Rattle.bm_base.specs.declared.storage.StorageInfo.{StorageInfo}
use Rattle.bm_base.specs.declared.commands.Transfer.{Transfer}
use Rattle.bm_base.specs.Words.{get, entries, len, State, replica_at, has, node_of, rack_of, has_storage, drains, is_draining, level, level_number, state_at_choice, whole_round}
use Rattle.bm_base.specs.Promises.NextRound.{IsAmong, IsTransferCommanded, transfers_chosen, transfers_commanded, live_marked, drained_marked}

-- a property of each transfer of the next round, given those chosen before it
abbrev pub ForEachTransfer : (State → List Transfer → Transfer → Type 0) → Type 0
ForEachTransfer P = (M : State) (front back : List Transfer) (t : Transfer) → transfers_chosen M ≡ front ++ t ∷ back → P M front t

-- Numbers of transfers.

-- the transfers of a round are at most `work` times the number of alive nodes
abbrev pub AtMostWorkTimesNodes : Type 0
AtMostWorkTimesNodes = (M : State) → length (transfers_commanded M) ≤ M.limits.work * len M.cluster.nodes

-- Sources.

-- a transfer is of a known block, with its stamp, and its source holds a live or drained replica of
-- it
abbrev pub SourceIsLiveOrDrained : Type 0
SourceIsLiveOrDrained =
    ForEachTransfer (λ M _ t. ((has (live_marked M t.block) t.source ≡ true) ⊎ (has (drained_marked M t.block) t.source ≡ true))
    × ((i : BlockInfo) × (get M.holdings.blocks t.block ≡ Some i) × (t.stamp ≡ i.stamp)))

-- A drained replica is the source before every live one. If the source's node does not drain, the
-- node of each drained replica of the block is already the source of four transfers of the round.
abbrev pub DrainedSourceGoesFirst : Type 0
DrainedSourceGoesFirst =
    ForEachTransfer (λ M front t. (s n : ℕ) → has (drained_marked M t.block) s ≡ true → node_of M.cluster s ≡ Some n
    → (is_draining M.cluster t.source ≡ true) ⊎ (count_by (λ u. has_storage M.cluster n u.source) front ≡ 4))

-- no node is the source of more than four transfers
abbrev pub AtMostFourFromANode : Type 0
AtMostFourFromANode = (M : State) → All (λ k. length k.transfers ≤ 4) (whole_round M).0.nodes

-- Targets.

-- The target's node does not drain, and has no replica of the block of any tag and no pending
-- transfer of it. No other transfer of the block in the round goes to it.
pub record IsFreshNode (M : State) (front : List Transfer) (t : Transfer) : Type 0 where
  pub known : (n : ℕ) × (node_of M.cluster t.target ≡ Some n)
  pub not_draining : is_draining M.cluster t.target ≡ false
  pub no_replica : (s : ℕ) → IsSome (get M.holdings.replicas (replica_at t.block s)) → node_of M.cluster s ≡ node_of M.cluster t.target → ⊥
  pub none_pending : (s : ℕ) → IsSome (get (state_at_choice M).holdings.pending (replica_at t.block s)) → node_of M.cluster s ≡ node_of M.cluster t.target → ⊥
  pub no_other : (u : Transfer) → IsAmong front u → u.block ≡ t.block → node_of M.cluster u.target ≡ node_of M.cluster t.target → ⊥

abbrev pub TargetIsOnFreshNode : Type 0
TargetIsOnFreshNode = ForEachTransfer IsFreshNode

-- the target of each transfer that a round commands is on a node that does not drain
abbrev pub NoDrainingNodeIsATarget : Type 0
NoDrainingNodeIsATarget = (M : State) (t : Transfer) → IsTransferCommanded M t → (n : ℕ) × (node_of M.cluster t.target ≡ Some n) × (drains M.cluster n ≡ false)

-- the lengths that a round sends to a storage add up to at most its remaining bytes
abbrev pub SentFits : Type 0
SentFits =
    (M : State) (s : ℕ) (i : StorageInfo) → get M.cluster.storages s ≡ Some i
    → sum_by (λ t. if t.target == s then t.stamp.len else 0) (transfers_chosen M) ≤ i.remaining

-- Blocks.

-- the number of transfers that the next round chooses for a block, and of those pending as it
-- chooses
abbrev pub copies_chosen : State → ℕ → ℕ
copies_chosen M b = count_by (λ t. t.block == b) (transfers_chosen M)

abbrev pub copies_on_their_way : State → ℕ → ℕ
copies_on_their_way M b = count_by (λ e. e.0.block == b) (entries (state_at_choice M).holdings.pending)

-- If a block gets transfers in a round, they are, with its live replicas and its pending transfers,
-- no more than are wanted. Or it has enough replicas, on one rack, none is pending, and it gets
-- one.
abbrev pub NoMoreThanLacks : Type 0
NoMoreThanLacks =
    (M : State) (b : ℕ) (i : BlockInfo) → get M.holdings.blocks b ≡ Some i → 1 ≤ copies_chosen M b
    → (length (live_marked M b) + copies_on_their_way M b + copies_chosen M b ≤ i.repl)
    ⊎ ((level M.cluster (state_at_choice M).holdings b ≡ Some BadlyDistributed) × (copies_on_their_way M b ≡ 0) × (copies_chosen M b ≡ 1))

-- a badly distributed block, which is on one rack, gets its copy on another rack
abbrev pub SecondRack : Type 0
SecondRack =
    ForEachTransfer (λ M _ t. level M.cluster (state_at_choice M).holdings t.block ≡ Some BadlyDistributed
    → (s r : ℕ) → has (live_marked M t.block) s ≡ true → rack_of M.cluster s ≡ Some r → rack_of M.cluster t.target ≡ Some r → ⊥)

-- Of two transfers that a round chooses, the first is of the more urgent level, or of the same
-- level and of the lesser or the same block.
abbrev pub MostUrgentFirst : Type 0
MostUrgentFirst =
    (M : State) (front middle back : List Transfer) (t u : Transfer) (l k : Level) → transfers_chosen M ≡ front ++ t ∷ (middle ++ u ∷ back)
    → level M.cluster (state_at_choice M).holdings t.block ≡ Some l → level M.cluster (state_at_choice M).holdings u.block ≡ Some k
    → (level_number l < level_number k) ⊎ ((l ≡ k) × (t.block ≤ u.block))
