-- Laws of the surplus: the live replicas above the wanted number, which a round marks as excess.
use Rattle.std.specs.Prelude.{◌≡◌, ℕ, ◌-◌, ◌≤◌, ◌↔◌, true, false, not, ◌&&◌, filter, length, Some}
use Rattle.bm_base.specs.declared.replica.ReplicaId.{ReplicaId}
use Rattle.bm_base.specs.declared.replica.Tag.TheVariants.{Good}
use Rattle.bm_base.specs.declared.replica.Marks.{Marks}
use Rattle.bm_base.specs.declared.replica.BlockInfo.{BlockInfo}
use Rattle.bm_base.specs.Words.{get, State, replica_at, has, rack_of, is_draining, state_at_choice}
use Rattle.bm_base.specs.Promises.NextRound.{live_unmarked, live_marked, live_after, drained_unmarked, drained_marked, drained_after}

-- Before a round marks, the live replicas are the good ones on nodes that do not drain, except
-- those in excess whose delete was commanded.
abbrev pub LiveBeforeMarking : Type 0
LiveBeforeMarking =
    (M : State) (b s : ℕ)
    → (has (live_unmarked M b) s ≡ true) ↔ ((m : Marks) × (get M.holdings.replicas (replica_at b s) ≡ Some m) × (m.tag ≡ Good) × ((m.excess && m.ordered) ≡ false) × (is_draining M.cluster s ≡ false))

-- The drained replicas are, by the same rule, the good ones on nodes that drain.
abbrev pub DrainedBeforeMarking : Type 0
DrainedBeforeMarking =
    (M : State) (b s : ℕ)
    → (has (drained_unmarked M b) s ≡ true)
    ↔ ((m : Marks) × (get M.holdings.replicas (replica_at b s) ≡ Some m) × (m.tag ≡ Good) × ((m.excess && m.ordered) ≡ false) × (is_draining M.cluster s ≡ true))

-- once a round has marked, a known block has at most the wanted number of live replicas
abbrev pub AtMostReplicationIsLive : Type 0
AtMostReplicationIsLive = (M : State) (b : ℕ) (i : BlockInfo) → get M.holdings.blocks b ≡ Some i → length (live_marked M b) ≤ i.repl

-- if a known block has n live replicas more than are wanted, a round marks exactly n of them
abbrev pub SurplusIsMarked : Type 0
SurplusIsMarked =
    (M : State) (b : ℕ) (i : BlockInfo) → get M.holdings.blocks b ≡ Some i
    → length (filter (λ s. not (has (live_marked M b) s)) (live_unmarked M b)) ≡ length (live_unmarked M b) - i.repl

-- So a round leaves the wanted number of live replicas, or all if there are no more than that.
abbrev pub RoundLeavesEnoughLive : Type 0
RoundLeavesEnoughLive =
    (M : State) (b : ℕ) (i : BlockInfo) → get M.holdings.blocks b ≡ Some i
    → (i.repl ≤ length (live_unmarked M b) → length (live_after M b) ≡ i.repl) × (length (live_unmarked M b) ≤ i.repl → live_after M b ≡ live_unmarked M b)

-- A replica that is live once a round has marked was live before.
abbrev pub MarkingMakesNoneLive : Type 0
MarkingMakesNoneLive = (M : State) (b s : ℕ) → has (live_marked M b) s ≡ true → has (live_unmarked M b) s ≡ true

-- If two live replicas of a block share a rack once the round has marked, each rack that had a live
-- one still has one.
abbrev pub LastOfRackStays : State → Type 0
LastOfRackStays M =
    (b s t u : ℕ) → has (live_unmarked M b) s ≡ true
    → has (live_marked M b) t ≡ true → has (live_marked M b) u ≡ true → (t ≡ u → ⊥) → rack_of M.cluster t ≡ rack_of M.cluster u
    → (v : ℕ) × (has (live_marked M b) v ≡ true) × (rack_of M.cluster v ≡ rack_of M.cluster s)

-- Marks.

-- A round marks no replica on a node that drains. If a replica there is in excess once the round
-- has marked, it was in excess before, with its delete commanded.
abbrev pub NoneOnADrainingNodeIsMarked : Type 0
NoneOnADrainingNodeIsMarked =
    (M : State) (q : ReplicaId) (n : Marks) → is_draining M.cluster q.storage ≡ true → get (state_at_choice M).holdings.replicas q ≡ Some n → n.excess ≡ true
    → (m : Marks) × (get M.holdings.replicas q ≡ Some m) × (m.excess ≡ true) × (m.ordered ≡ true)

-- So a replica that is drained before a round marks stays drained through the round, and no other
-- becomes drained.
abbrev pub DrainedStayDrained : Type 0
DrainedStayDrained = (M : State) (b : ℕ) → (drained_marked M b ≡ drained_unmarked M b) × (drained_after M b ≡ drained_unmarked M b)

-- An excess replica whose delete was commanded stays in excess.
abbrev pub OrderedExcessStays : Type 0
OrderedExcessStays =
    (M : State) (q : ReplicaId) (m : Marks) → get M.holdings.replicas q ≡ Some m → m.ordered ≡ true → m.excess ≡ true
    → (n : Marks) × (get (state_at_choice M).holdings.replicas q ≡ Some n) × (n.excess ≡ true)

-- Any other replica that is in excess once a round has marked was live before, whatever an earlier
-- round marked.
abbrev pub OtherExcessIsNew : Type 0
OtherExcessIsNew =
    (M : State) (q : ReplicaId) (n : Marks) → get (state_at_choice M).holdings.replicas q ≡ Some n → n.ordered ≡ false → n.excess ≡ true
    → (has (live_unmarked M q.block) q.storage ≡ true) × (has (live_marked M q.block) q.storage ≡ false)
