-- Worked examples of a round's choices on one small cluster: each tie, and each limit at its edge.
use Rattle.std.specs.Prelude.{◌≡◌, ℕ, Bool, true, false, List, [], ◌∷◌, map, Option, Some, None}
use Rattle.bm_base.specs.declared.replica.Stamp.{Stamp}
use Rattle.bm_base.specs.declared.replica.Tag.{Tag}
use Rattle.bm_base.specs.declared.replica.Tag.TheVariants.{Good, Stale, Bad, Stray}
use Rattle.bm_base.specs.declared.replica.ReplicaId.{ReplicaId}
use Rattle.bm_base.specs.declared.replica.Marks.{Marks}
use Rattle.bm_base.specs.declared.replica.BlockInfo.{BlockInfo}
use Rattle.bm_base.specs.declared.storage.StorageInfo.{StorageInfo}
use Rattle.bm_base.specs.declared.replica.Level.{Level}
use Rattle.bm_base.specs.declared.replica.Level.TheVariants.{Highest, VeryUnderReplicated, UnderReplicated, BadlyDistributed, NoUsableReplica}
use Rattle.bm_base.specs.declared.commands.Transfer.{Transfer}
use Rattle.bm_base.specs.Words.{empty, insert_all, Cluster, standard_limits, Holdings, replica_at, level_number, level_of, TargetRequest, excess_of, excess_in, without_expired, wishes, least_source, least_target, holders_of, excluded_for, transfers, deletes}
use Rattle.worked_examples.specs.Levels.{counts}

-- The cluster.

abbrev pub on : ℕ → ℕ → StorageInfo
on node remaining = record { node = node; remaining = remaining }

-- Nodes 1 and 2 are on rack 1, 3 and 4 on rack 2, 5 on rack 3. Node n has a storage n1; in addition
-- node 5 has 12, and node 1 has 52.
abbrev pub three_racks : Cluster
three_racks = record {
  limits = standard_limits;
  nodes = insert_all empty ((1, 1) ∷ (2, 1) ∷ (3, 2) ∷ (4, 2) ∷ (5, 3) ∷ []);
  draining = empty;
  storages = insert_all empty ((11, on 1 100) ∷ (12, on 5 90) ∷ (21, on 2 100) ∷ (31, on 3 80) ∷ (41, on 4 100) ∷ (51, on 5 200) ∷ (52, on 1 60) ∷ []);
}

abbrev pub stamp : ℕ → Stamp
stamp len = record { generation = 1; len = len }

-- a chosen transfer of a block of `len` bytes
abbrev pub sent : ℕ → ℕ → ℕ → ℕ → Transfer
sent block source target len = record { block = block; stamp = stamp len; source = source; target = target }

-- Targets.

abbrev pub request : Level → List ℕ → List ℕ → ℕ → TargetRequest
request urgency holders excluded len = record {
  urgency = urgency;
  holders = holders;
  excluded = excluded;
  len = len;
}

-- the target of a block of ten bytes that these storages hold, after the transfers in `chosen`
abbrev pub target_of : List Transfer → Level → List ℕ → Option ℕ
target_of chosen level holders = least_target three_racks chosen (request level holders holders 10)

-- The second copy goes to another rack, there to the storage with the most free bytes. With two
-- copies on two racks the third goes to one of these racks, even if a third rack has more free
-- bytes. With three copies on two racks every rack is as good.
abbrev pub RacksOfCopies : Type 0
RacksOfCopies =
    (target_of [] Highest (11 ∷ []) ≡ Some 51)
    × (target_of [] UnderReplicated (11 ∷ 31 ∷ []) ≡ Some 21)
    × (target_of [] UnderReplicated (11 ∷ 21 ∷ 31 ∷ []) ≡ Some 51)

-- The free bytes of a target are its remaining bytes minus those that the round sends there. Of
-- targets with equal free bytes the lesser storage is taken.
abbrev pub FreeBytesOfTargets : Type 0
FreeBytesOfTargets =
    (target_of (sent 9 11 51 150 ∷ []) Highest (11 ∷ []) ≡ Some 41)
    × (least_target three_racks [] (request UnderReplicated (31 ∷ []) (31 ∷ 51 ∷ []) 10) ≡ Some 11)

-- A block fits a storage that has exactly its length free, but not one with a byte less.
abbrev pub BlockFits : Type 0
BlockFits =
    (least_target three_racks [] (request Highest (11 ∷ []) (11 ∷ []) 200) ≡ Some 51)
    × (least_target three_racks [] (request Highest (11 ∷ []) (11 ∷ []) 201) ≡ None)
    × (least_target three_racks (sent 9 11 51 1 ∷ []) (request Highest (11 ∷ []) (11 ∷ []) 200) ≡ None)

-- A badly distributed block gets no copy if no other rack may be taken. A block with too few
-- replicas then gets its copy on the same rack.
abbrev pub OtherRackOrNone : Type 0
OtherRackOrNone =
    (least_target three_racks [] (request BadlyDistributed (11 ∷ []) (11 ∷ 31 ∷ 41 ∷ 51 ∷ []) 10) ≡ None)
    × (least_target three_racks [] (request UnderReplicated (11 ∷ []) (11 ∷ 31 ∷ 41 ∷ 51 ∷ []) 10) ≡ Some 21)

-- Sources.

-- The source is the one whose node sends the fewest transfers, over all storages of the node. Of
-- equal nodes it is the lesser, whatever its storage's number. Of the storages of one node it is
-- the lesser, though no lawful state has two replicas of a block there.
abbrev pub SourceSendsFewest : Type 0
SourceSendsFewest =
    (least_source three_racks (sent 9 52 21 10 ∷ []) Highest (11 ∷ 31 ∷ []) ≡ Some 31)
    × (least_source three_racks (sent 9 31 11 10 ∷ []) Highest (12 ∷ 31 ∷ []) ≡ Some 12)
    × (least_source three_racks [] Highest (12 ∷ 31 ∷ []) ≡ Some 31)
    × (least_source three_racks [] Highest (11 ∷ 52 ∷ []) ≡ Some 11)

-- A node that does not drain is the source of at most four transfers. It is chosen for a block at
-- another level than the highest only while it is the source of fewer than two.
abbrev pub SourceLimits : Type 0
SourceLimits =
    (least_source three_racks (sent 7 11 31 10 ∷ sent 8 11 31 10 ∷ []) UnderReplicated (11 ∷ []) ≡ None)
    × (least_source three_racks (sent 8 11 31 10 ∷ []) UnderReplicated (11 ∷ []) ≡ Some 11)
    × (least_source three_racks (sent 6 11 31 10 ∷ sent 7 11 31 10 ∷ sent 8 11 31 10 ∷ []) Highest (11 ∷ []) ≡ Some 11)
    × (least_source three_racks (sent 5 11 31 10 ∷ sent 6 11 31 10 ∷ sent 7 11 31 10 ∷ sent 8 11 31 10 ∷ []) Highest (11 ∷ []) ≡ None)

-- Nodes that drain.

-- the cluster in which these nodes drain
abbrev pub draining : List ℕ → Cluster
draining nodes = record three_racks { draining = insert_all empty (map (λ n. (n, tt)) nodes) }

-- A source on a node that drains comes first, even if its node sends more, until the node sends
-- four. The limit of four is the same at every level.
abbrev pub DrainedSourcesFirst : Type 0
DrainedSourcesFirst =
    (least_source (draining (3 ∷ [])) (sent 7 31 11 10 ∷ sent 8 31 11 10 ∷ sent 9 31 11 10 ∷ []) UnderReplicated (11 ∷ 31 ∷ []) ≡ Some 31)
    × (least_source (draining (3 ∷ [])) (sent 6 31 11 10 ∷ sent 7 31 11 10 ∷ sent 8 31 11 10 ∷ sent 9 31 11 10 ∷ []) UnderReplicated (11 ∷ 31 ∷ []) ≡ Some 11)
    × (least_source (draining (3 ∷ [])) (sent 6 31 11 10 ∷ sent 7 31 11 10 ∷ sent 8 31 11 10 ∷ sent 9 31 11 10 ∷ []) Highest (31 ∷ []) ≡ None)
    × (least_source (draining (3 ∷ 4 ∷ [])) (sent 9 31 11 10 ∷ []) UnderReplicated (11 ∷ 31 ∷ 41 ∷ []) ≡ Some 41)

-- The second copy goes to another rack, and to no node that drains, even if that has more free
-- bytes. There is no target if all other nodes drain.
abbrev pub DrainingNodeIsNoTarget : Type 0
DrainingNodeIsNoTarget =
    (least_target (draining (5 ∷ [])) [] (request Highest (11 ∷ []) (11 ∷ []) 10) ≡ Some 41)
    × (least_target (draining (2 ∷ 3 ∷ 4 ∷ 5 ∷ [])) [] (request Highest (11 ∷ []) (11 ∷ []) 10) ≡ None)

-- Surplus.

-- Surplus is taken first from racks with two or more replicas, then from the others. Of either kind
-- the storage with fewer remaining bytes goes first, and of equal ones the greater storage.
abbrev pub SurplusGoesInOrder : Type 0
SurplusGoesInOrder =
    (excess_of three_racks (11 ∷ 21 ∷ 31 ∷ 51 ∷ []) 3 ≡ 21 ∷ [])
    × (excess_of three_racks (11 ∷ 31 ∷ 41 ∷ []) 2 ≡ 31 ∷ [])
    × (excess_of three_racks (11 ∷ 21 ∷ 31 ∷ 51 ∷ []) 1 ≡ 21 ∷ 31 ∷ 11 ∷ [])
    × (excess_of three_racks (11 ∷ 21 ∷ []) 2 ≡ [])

-- Holdings.

abbrev pub marks : Tag → Bool → Bool → Marks
marks tag excess ordered = record { tag = tag; excess = excess; ordered = ordered }

abbrev pub live_mark : Marks
live_mark = marks Good false false

-- a replica with its marks
abbrev pub held : ℕ → ℕ → Marks → ReplicaId × Marks
held block storage m = (replica_at block storage, m)

-- a block of ten bytes with the number of its wanted replicas
abbrev pub block : ℕ → ℕ → ℕ × BlockInfo
block number repl = (number, record { stamp = stamp 10; repl = repl })

-- a pending transfer to a storage, with the round that commanded it
abbrev pub since : ℕ → ℕ → ℕ → ReplicaId × ℕ
since block storage round = (replica_at block storage, round)

abbrev pub holdings : List (ℕ × BlockInfo) → List (ReplicaId × Marks) → List (ReplicaId × ℕ) → Holdings
holdings blocks replicas pending = record { blocks = insert_all empty blocks; replicas = insert_all empty replicas; pending = insert_all empty pending }

-- Levels: block 1 at 2, block 2 at 0, 3 at 1, 4 at 3, 5 at 4. Of those with a pending transfer, 6
-- is at 0 and 7 at 3.
abbrev pub wanting : Holdings
wanting =
    holdings (block 1 3 ∷ block 2 3 ∷ block 3 7 ∷ block 4 2 ∷ block 5 2 ∷ block 6 3 ∷ block 7 2 ∷ [])
    (held 1 11 live_mark ∷ held 1 21 live_mark ∷ held 2 11 live_mark ∷ held 3 11 live_mark ∷ held 3 21 live_mark ∷ held 4 11 live_mark ∷ held 4 21 live_mark
    ∷ held 6 11 live_mark ∷ held 7 11 live_mark ∷ held 7 21 live_mark ∷ [])
    (since 6 31 1 ∷ since 7 31 1 ∷ [])

-- Copies are requested by level and then by block, for each block the number that it lacks.
abbrev pub WishesInOrder : Type 0
WishesInOrder =
    map {B = ℕ × ℕ} (λ w. (level_number w.urgency, w.block)) (wishes three_racks wanting)
    ≡ (0, 2) ∷ (0, 2) ∷ (0, 6) ∷ (1, 3) ∷ (1, 3) ∷ (1, 3) ∷ (1, 3) ∷ (1, 3) ∷ (2, 1) ∷ (3, 4) ∷ []

-- Holders of a block are its live replicas, pending transfers and chosen targets. Excluded are, in
-- addition, its replicas of any tag. A pending copy counts as a holder: if a block is on racks 1
-- and 2, one of them pending, its third copy goes to rack 1 or 2.
abbrev pub HeldAndExcluded : Type 0
HeldAndExcluded =
    (holders_of three_racks wanting (sent 6 11 51 10 ∷ sent 2 11 41 10 ∷ []) 6 ≡ 11 ∷ 31 ∷ 51 ∷ [])
    × (excluded_for (holdings [] (held 6 11 live_mark ∷ held 6 21 (marks Stale false false) ∷ held 6 41 (marks Good true true) ∷ []) (since 6 31 1 ∷ [])) (sent 6 11 51 10 ∷ []) 6 ≡ 11 ∷ 21 ∷ 41 ∷ 31 ∷ 51 ∷ [])

-- six blocks, each with one of two wanted replicas
abbrev pub six_urgent : Holdings
six_urgent =
    holdings (block 1 2 ∷ block 2 2 ∷ block 3 2 ∷ block 4 2 ∷ block 5 2 ∷ block 6 2 ∷ [])
    (held 1 11 live_mark ∷ held 2 21 live_mark ∷ held 3 31 live_mark ∷ held 4 41 live_mark ∷ held 5 51 live_mark ∷ held 6 11 live_mark ∷ []) []

-- With `work` 1 and five nodes, draining or not, a round commands five transfers for six blocks of
-- the highest level. A block with only a drained replica requests two copies.
abbrev pub WorkIsSharedByAll : Type 0
WorkIsSharedByAll =
    (map {B = ℕ × ℕ × ℕ} (λ t. (t.block, t.source, t.target)) (transfers (record { work = 1; invalidate = 10; pend = 10 }) three_racks six_urgent)
    ≡ (1, 11, 51) ∷ (2, 21, 51) ∷ (3, 31, 51) ∷ (4, 41, 51) ∷ (5, 51, 11) ∷ [])
    × (map {B = ℕ × ℕ × ℕ} (λ t. (t.block, t.source, t.target)) (transfers (record { work = 1; invalidate = 10; pend = 10 }) (draining (2 ∷ [])) six_urgent)
    ≡ (1, 11, 51) ∷ (2, 21, 51) ∷ (2, 21, 11) ∷ (3, 31, 51) ∷ (4, 41, 51) ∷ [])

-- A badly distributed block gets one copy more than are wanted, on another rack. With that copy one
-- of the two replicas on the first rack is surplus.
abbrev pub OneMoreThanWanted : Type 0
OneMoreThanWanted =
    (map {B = ℕ × ℕ × ℕ} (λ t. (t.block, t.source, t.target))
    (transfers (record { work = 1; invalidate = 10; pend = 10 }) three_racks (holdings (block 4 2 ∷ []) (held 4 11 live_mark ∷ held 4 21 live_mark ∷ []) [])) ≡ (4, 11, 51) ∷ [])
    × (excess_of three_racks (11 ∷ 21 ∷ 51 ∷ []) 2 ≡ 21 ∷ [])

-- Node 3 drains. Block 1 wants two replicas, one is live and one drained: it is copied from the
-- drained one to another rack than the live one's. Block 2 has only a drained replica, and is
-- copied. Block 3 wants one replica and has a live one: its drained replica is neither copied nor
-- surplus, and its corrupt one is deleted. Block 4 wants one and has only a drained one: it is
-- copied, and its corrupt one waits.
abbrev pub leaving : Holdings
leaving =
    holdings (block 1 2 ∷ block 2 1 ∷ block 3 1 ∷ block 4 1 ∷ [])
    (held 1 11 live_mark ∷ held 1 31 live_mark ∷ held 2 31 live_mark ∷ held 3 11 live_mark ∷ held 3 21 (marks Bad false false) ∷ held 3 31 live_mark
    ∷ held 4 21 (marks Bad false false) ∷ held 4 31 live_mark ∷ [])
    []

abbrev pub DrainedIsCopiedAndNotCounted : Type 0
DrainedIsCopiedAndNotCounted =
    (map {B = ℕ × ℕ × ℕ} (λ t. (t.block, t.source, t.target)) (transfers (record { work = 1; invalidate = 10; pend = 10 }) (draining (3 ∷ [])) leaving)
    ≡ (1, 31, 51) ∷ (2, 31, 51) ∷ (4, 31, 51) ∷ [])
    × (excess_in (draining (3 ∷ [])) leaving 3 ≡ [])
    × (map {B = ℕ × ℕ} (λ d. (d.storage, d.block)) (deletes (record { work = 1; invalidate = 10; pend = 10 }) (draining (3 ∷ [])) leaving) ≡ (21, 3) ∷ [])

-- Deletes.

-- A node's deletes by storage and then by block, up to the limit. These are stray replicas, excess
-- replicas, and corrupt ones of a block with enough live replicas, but none that is ordered
-- already. Block 1 has enough live replicas, block 2 has not.
abbrev pub DeletesInOrder : Type 0
DeletesInOrder =
    map {B = ℕ × ℕ} (λ d. (d.storage, d.block))
    (deletes (record { work = 1; invalidate = 2; pend = 10 }) three_racks
    (holdings (block 1 1 ∷ block 2 2 ∷ [])
    (held 1 11 live_mark ∷ held 1 12 (marks Good true false) ∷ held 1 21 (marks Bad false false) ∷ held 1 31 (marks Stale false true) ∷ held 2 11 live_mark ∷ held 2 21 (marks Bad false false)
    ∷ held 8 51 (marks Stray false false) ∷ held 9 12 (marks Stray false false) ∷ held 9 21 (marks Stray false false) ∷ held 9 41 (marks Stray false true) ∷ []) []))
    ≡ (21, 1) ∷ (21, 9) ∷ (12, 1) ∷ (12, 9) ∷ []

-- Two transfers were commanded, in rounds 3 and 4. With `pend` 2, that of round 3 has expired by
-- round 5. With `pend` 1, that of round 4 has expired too: the next round may command it again.
abbrev pub ExpiresAfterPend : Type 0
ExpiresAfterPend =
    (without_expired 2 5 (holdings [] [] (since 1 11 3 ∷ since 1 21 4 ∷ [])) ≡ holdings [] [] (since 1 21 4 ∷ []))
    × (without_expired 1 5 (holdings [] [] (since 1 11 3 ∷ since 1 21 4 ∷ [])) ≡ holdings [] [] [])

-- Levels at their edges: two live replicas are fewer than a third of seven, and a third of six.
-- Drained replicas count only if none is live.
abbrev pub LevelsAtTheirEdges : Type 0
LevelsAtTheirEdges =
    (level_of (counts 2 0 7 2 true) ≡ Some VeryUnderReplicated) × (level_of (counts 2 0 6 2 true) ≡ Some UnderReplicated)
    × (level_of (counts 2 0 2 1 true) ≡ Some BadlyDistributed) × (level_of (counts 2 0 2 1 false) ≡ None) × (level_of (counts 1 0 1 1 true) ≡ None) × (level_of (counts 2 0 2 2 true) ≡ None)
    × (level_of (counts 0 0 1 0 true) ≡ Some NoUsableReplica) × (level_of (counts 0 1 1 0 true) ≡ Some Highest) × (level_of (counts 2 1 7 2 true) ≡ Some VeryUnderReplicated)
    × (level_of (counts 1 1 1 1 true) ≡ None)
