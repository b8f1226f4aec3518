-- Laws of deletes.
use Rattle.std.specs.Prelude.{◌≡◌, ℕ, ◌≤◌, ◌⊎◌, true, false, List, length, Some}
use Rattle.std.specs.List.{All}
use Rattle.bm_base.specs.declared.config.Config.{Config}
use Rattle.bm_base.specs.declared.limits.Limits.{Limits}
use Rattle.bm_base.specs.declared.call.Call.{Call}
use Rattle.bm_base.specs.declared.replica.ReplicaId.{ReplicaId}
use Rattle.bm_base.specs.declared.replica.Tag.TheVariants.{Good}
use Rattle.bm_base.specs.declared.replica.Marks.{Marks}
use Rattle.bm_base.specs.declared.replica.BlockInfo.{BlockInfo}
use Rattle.bm_base.specs.declared.commands.NodeCommands.{NodeCommands}
use Rattle.bm_base.specs.Words.{get, State, replica_at, first_state_within, has, is_usable, is_stray, is_corrupt, node_of, is_draining, state_at_choice, whole_round, state_after}
use Rattle.bm_base.specs.Promises.NextRound.{IsAmong, IsDeleteCommanded, after_round, live_marked, live_after, drained_after}

-- The last good replica.

-- A round does not command the delete of the only good replica of a known block.
abbrev pub OnlyGoodReplicaIsNotDeleted : State → Type 0
OnlyGoodReplicaIsNotDeleted M =
    (b s : ℕ) (i : BlockInfo) → get M.holdings.blocks b ≡ Some i
    → ((t : ℕ) (m : Marks) → get M.holdings.replicas (replica_at b t) ≡ Some m → m.tag ≡ Good → t ≡ s)
    → IsDeleteCommanded M (replica_at b s) → ⊥

-- If a round commands the delete of a replica of a known block, another replica of the block is
-- live after the round. The round does not command the delete of that one.
abbrev pub LastGoodReplicaStays : State → Type 0
LastGoodReplicaStays M =
    (b s : ℕ) (i : BlockInfo) → get M.holdings.blocks b ≡ Some i → IsDeleteCommanded M (replica_at b s)
    → (t : ℕ) × (has (live_after M b) t ≡ true) × (IsDeleteCommanded M (replica_at b t) → ⊥) × (t ≡ s → ⊥)

-- More than that: at least the wanted number of the block's replicas are live after the round, and
-- at least one is wanted.
abbrev pub EnoughStayLive : State → Type 0
EnoughStayLive M =
    (b s : ℕ) (i : BlockInfo) → get M.holdings.blocks b ≡ Some i → IsDeleteCommanded M (replica_at b s)
    → (1 ≤ i.repl) × (i.repl ≤ length (live_after M b))

-- a round commands the delete of no replica that is live after it
abbrev pub LiveReplicaIsNotDeleted : Type 0
LiveReplicaIsNotDeleted = (M : State) (b t : ℕ) → has (live_after M b) t ≡ true → IsDeleteCommanded M (replica_at b t) → ⊥

-- a round commands the delete of no replica that is drained after it
abbrev pub DrainedReplicaIsNotDeleted : Type 0
DrainedReplicaIsNotDeleted = (M : State) (b t : ℕ) → has (drained_after M b) t ≡ true → IsDeleteCommanded M (replica_at b t) → ⊥

-- What is deleted.

-- a replica whose delete a round may command, by its marks once the round has marked
pub record MayBeDeleted (M : State) (q : ReplicaId) : Type 0 where
  pub marks : Marks
  pub is_there : get (state_at_choice M).holdings.replicas q ≡ Some marks
  pub not_ordered : marks.ordered ≡ false
  pub kind : (is_stray marks.tag ≡ true) ⊎ ((marks.excess ≡ true) ⊎ (is_corrupt marks.tag ≡ true))

abbrev pub OnlyWhatMayBeDeleted : Type 0
OnlyWhatMayBeDeleted = (M : State) (q : ReplicaId) → IsDeleteCommanded M q → MayBeDeleted M q

-- a corrupt replica is deleted only if at least the wanted number of its block's replicas are live
abbrev pub CorruptWaitsForLive : State → Type 0
CorruptWaitsForLive M =
    (q : ReplicaId) (m : Marks) → IsDeleteCommanded M q → get (state_at_choice M).holdings.replicas q ≡ Some m → is_corrupt m.tag ≡ true
    → (i : BlockInfo) × (get M.holdings.blocks q.block ≡ Some i) × (i.repl ≤ length (live_marked M q.block))

-- a delete that was ordered before the round is not commanded again
abbrev pub NoneIsOrderedAgain : Type 0
NoneIsOrderedAgain = (M : State) (q : ReplicaId) → IsDeleteCommanded M q → (m : Marks) × (get M.holdings.replicas q ≡ Some m) × (m.ordered ≡ false)

-- no node is commanded more deletes than the limit
abbrev pub AtMostInvalidateANode : Type 0
AtMostInvalidateANode = (M : State) → All (λ k. length k.deletes ≤ M.limits.invalidate) (whole_round M).0.nodes

-- why a replica is to be deleted, if that is not ordered already: by its marks once the round has
-- marked
abbrev pub IsToBeDeleted : State → ReplicaId → Marks → Type 0
IsToBeDeleted M q m =
    (is_stray m.tag ≡ true) ⊎ ((m.excess ≡ true)
    ⊎ ((is_corrupt m.tag ≡ true) × ((i : BlockInfo) × (get M.holdings.blocks q.block ≡ Some i) × (i.repl ≤ length (live_marked M q.block)))))

-- The delete of a replica that is to be deleted is commanded, unless it was ordered before, or the
-- round commands the node the limit of deletes.
abbrev pub OnlyTheLimitDefers : State → Type 0
OnlyTheLimitDefers M =
    (q : ReplicaId) (m : Marks) (n : ℕ) → 1 ≤ M.limits.invalidate
    → get (state_at_choice M).holdings.replicas q ≡ Some m → m.ordered ≡ false → IsToBeDeleted M q m → node_of M.cluster q.storage ≡ Some n
    → IsDeleteCommanded M q ⊎ ((k : NodeCommands) × IsAmong (whole_round M).0.nodes k × (k.node ≡ n) × (M.limits.invalidate ≤ length k.deletes))

-- After every list of calls.

-- a replica whose delete was commanded, and which was not reported since, is neither live nor
-- drained
abbrev pub OrderedReplicaIsNotUsable : Type 0
OrderedReplicaIsNotUsable =
    (l : Limits) (config : Config) (ks : List Call) (q : ReplicaId) (m : Marks)
    → get (state_after (first_state_within l config) ks).holdings.replicas q ≡ Some m → m.ordered ≡ true → is_usable m ≡ false

-- If a round commands the delete of a replica of a known block, a replica of the block remains.
-- That one is good and not in excess, on a node that does not drain, and no round has commanded its
-- delete since its last report.
abbrev pub GoodReplicaIsLeftByAllRounds : Type 0
GoodReplicaIsLeftByAllRounds =
    (l : Limits) (config : Config) (ks : List Call) (b s : ℕ) (i : BlockInfo)
    → let M = state_after (first_state_within l config) ks in get M.holdings.blocks b ≡ Some i → IsDeleteCommanded M (replica_at b s)
    → (t : ℕ) × (m : Marks) × (get (after_round M).holdings.replicas (replica_at b t) ≡ Some m) × (m.tag ≡ Good) × (m.excess ≡ false) × (m.ordered ≡ false)
    × (is_draining M.cluster t ≡ false)
