-- Laws of levels.
use Rattle.std.specs.Prelude.{◌≡◌, ℕ, ◌+◌, ◌≤◌, ◌<◌, ◌↔◌, Bool, true, false, length, Option, Some, None, List}
use Rattle.bm_base.specs.declared.replica.Level.{Level}
use Rattle.bm_base.specs.declared.replica.Level.TheVariants.{Highest, VeryUnderReplicated, UnderReplicated, BadlyDistributed, NoUsableReplica}
use Rattle.bm_base.specs.declared.replica.BlockInfo.{BlockInfo}
use Rattle.bm_base.specs.Words.{get, Cluster, Holdings, State, has, live, drained, rack_of, level, level_of, missing_blocks, set_replication}

-- How much a block needs replicas, by its level: not at all without a level, and most if no usable
-- replica is left.
abbrev pub need : Option Level → ℕ
need None = 0
need (Some BadlyDistributed) = 1
need (Some UnderReplicated) = 2
need (Some VeryUnderReplicated) = 3
need (Some Highest) = 4
need (Some NoUsableReplica) = 5

abbrev pub UnknownBlockHasNoLevel : Type 0
UnknownBlockHasNoLevel = (C : Cluster) (H : Holdings) (b : ℕ) → get H.blocks b ≡ None → level C H b ≡ None

abbrev pub LevelFourIsNoUsableReplica : State → Type 0
LevelFourIsNoUsableReplica M =
    (b : ℕ) (i : BlockInfo) → get M.holdings.blocks b ≡ Some i
    → (level M.cluster M.holdings b ≡ Some NoUsableReplica) ↔ ((length (live M.cluster M.holdings b) ≡ 0) × (length (drained M.cluster M.holdings b) ≡ 0))

-- a block with no live replica, but a drained one, has level 0, and so is not missing
abbrev pub OnlyDrainedIsLevelZero : State → Type 0
OnlyDrainedIsLevelZero M =
    (b : ℕ) (i : BlockInfo) → get M.holdings.blocks b ≡ Some i
    → length (live M.cluster M.holdings b) ≡ 0 → 1 ≤ length (drained M.cluster M.holdings b)
    → (level M.cluster M.holdings b ≡ Some Highest) × (has (missing_blocks M.cluster M.holdings) b ≡ false)

-- storages that are all on one rack
abbrev pub AreOnOneRack : Cluster → List ℕ → Type 0
AreOnOneRack C ss = (s t : ℕ) → has ss s ≡ true → has ss t ≡ true → rack_of C s ≡ rack_of C t

-- the alive nodes are on two racks or more
abbrev pub HasTwoRacks : Cluster → Type 0
HasTwoRacks C = (n : ℕ) × (k : ℕ) × (r : ℕ) × (q : ℕ) × (get C.nodes n ≡ Some r) × (get C.nodes k ≡ Some q) × (r ≡ q → ⊥)

abbrev pub LevelThreeIsOneRack : State → Type 0
LevelThreeIsOneRack M =
    (b : ℕ) (i : BlockInfo) → get M.holdings.blocks b ≡ Some i
    → (level M.cluster M.holdings b ≡ Some BadlyDistributed)
    ↔ ((2 ≤ i.repl) × (i.repl ≤ length (live M.cluster M.holdings b)) × AreOnOneRack M.cluster (live M.cluster M.holdings b) × HasTwoRacks M.cluster)

abbrev pub ShortOfReplicas : Type 0
ShortOfReplicas =
    (M : State) (b : ℕ) (i : BlockInfo) → get M.holdings.blocks b ≡ Some i
    → (2 ≤ need (level M.cluster M.holdings b)) ↔ (length (live M.cluster M.holdings b) < i.repl)

-- The need is no less if `more` replicas are wanted instead of `repl`. `live` replicas are live, on
-- `racks` racks, and `drained` are drained.
abbrev pub MoreWantedIsNoLessNeed : Type 0
MoreWantedIsNoLessNeed =
    (live drained repl more racks : ℕ) (multi : Bool) → repl ≤ more → need (level_of (record { live = live; drained = drained; wanted = repl; racks = racks; multi_rack = multi })) ≤ need (level_of (record { live = live; drained = drained; wanted = more; racks = racks; multi_rack = multi }))

abbrev pub RaisedReplicationIsNoLessNeed : Type 0
RaisedReplicationIsNoLessNeed =
    (C : Cluster) (H : Holdings) (b more : ℕ) (i : BlockInfo) → get H.blocks b ≡ Some i → i.repl ≤ more
    → need (level C H b) ≤ need (level C (set_replication H b more) b)

-- One more live replica is on a rack of the others, or on one more rack. Live replicas are on at
-- least one rack. The number of drained ones may change too, as when a drained one becomes live.
abbrev pub OneReplicaMoreIsNoMoreNeed : Type 0
OneReplicaMoreIsNoMoreNeed =
    (live drained drained_then repl racks more_racks : ℕ) (multi : Bool) → (1 ≤ live → 1 ≤ racks) → racks ≤ more_racks
    → need (level_of (record { live = live + 1; drained = drained_then; wanted = repl; racks = more_racks; multi_rack = multi })) ≤ need (level_of (record { live = live; drained = drained; wanted = repl; racks = racks; multi_rack = multi }))

abbrev pub OneDrainedReplicaMoreIsNoMoreNeed : Type 0
OneDrainedReplicaMoreIsNoMoreNeed =
    (live drained repl racks : ℕ) (multi : Bool) → need (level_of (record { live = live; drained = drained + 1; wanted = repl; racks = racks; multi_rack = multi })) ≤ need (level_of (record { live = live; drained = drained; wanted = repl; racks = racks; multi_rack = multi }))
