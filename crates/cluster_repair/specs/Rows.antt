-- The rows of rounds, and the states between the rounds.
use Rattle.std.specs.Prelude.{◌≡◌, ℕ, ◌<◌, Bool, true, ◌+◌, ◌-◌, ◌/◌, ◌%◌, ◌==◌, ◌&&◌, ◌||◌, nat_le, max, List, [], ◌∷◌, ◌++◌, map, filter, length, Some, is_some}
use Rattle.std.specs.List.{All, AllPairs, list_any}
use Rattle.std.specs.List.Sorted.{IsStrictlyIncreasing}
use Rattle.bm_base.specs.declared.event.Event.{Event}
use Rattle.bm_base.specs.declared.replica.Level.TheVariants.{Highest, VeryUnderReplicated, UnderReplicated, BadlyDistributed}
use Rattle.bm_base.specs.Words.{State, has, keys, level, missing_blocks}
use Rattle.cluster_report.specs.declared.levels.LevelCounts.{LevelCounts}
use Rattle.laws_of_repairs.specs.Repairs.{Covers, blocks_at}
use Rattle.cluster_repair.specs.declared.datanodes.DataNodes.{DataNodes}
use Rattle.cluster_repair.specs.declared.rows.Row.{Row}
use Rattle.cluster_repair.specs.declared.reasons.Unmended.{Unmended}
use Rattle.cluster_repair.specs.declared.repair.Pace.{Pace}
use Rattle.cluster_repair.specs.declared.repair.Repair.{Repair}
use Rattle.cluster_repair.specs.declared.ticks.Ticks.{Ticks}
use Rattle.cluster_repair.specs.Reports.{IsReached, after_events}
use Rattle.cluster_repair.specs.History.{RoundRecord, AreAtStart, HasTaken, are_idle, awaited_rounds, commanded_of, datanodes_of, state_of, time_of}
use Rattle.cluster_repair.specs.Retirements.{AreRetired, retired_since, retirement_of}
use Rattle.cluster_repair.specs.Ticks.{ticks_of}

-- DataNodes report these events, which the manager accepts; blocks are added to those that are
-- watched
pub record AreReported (es : List Event) (M N : State) (old new : List ℕ) : Type 0 where
  pub state : N ≡ after_events M es
  pub reached : IsReached 0 M N
  pub covers : Covers M old → Covers N new

-- the counts are those of all known blocks, by the level that the manager answers
pub record AreCounts (M : State) (c : LevelCounts) : Type 0 where
  pub highest : c.highest ≡ blocks_at M Highest (keys M.holdings.blocks)
  pub very_under_replicated : c.very_under_replicated ≡ blocks_at M VeryUnderReplicated (keys M.holdings.blocks)
  pub under_replicated : c.under_replicated ≡ blocks_at M UnderReplicated (keys M.holdings.blocks)
  pub badly_distributed : c.badly_distributed ≡ blocks_at M BadlyDistributed (keys M.holdings.blocks)
  pub missing : c.missing ≡ length (missing_blocks M.cluster M.holdings)

-- a row has the counts after the last of some rounds
pub record IsRowOf (M : State) (d : DataNodes) (taken : List RoundRecord) (row : Row) : Type 0 where
  pub some : 0 < row.round
  pub round : row.round ≡ length taken
  pub seconds : row.seconds ≡ time_of taken / 1000000
  pub levels : AreCounts (state_of M taken) row.levels
  pub commanded : row.commanded ≡ commanded_of taken
  pub on_way : row.on_way ≡ length (datanodes_of d taken).on_way.sent.items

-- A row has the counts after one of these rounds. The list has the last round first, so it ends
-- with this one and those before it.
pub record IsRowAmong (M : State) (d : DataNodes) (taken : List RoundRecord) (row : Row) : Type 0 where
  pub later : List RoundRecord
  pub before : List RoundRecord
  pub parts : taken ≡ later ++ before
  pub reached : IsReached row.round M (state_of M before)
  pub is : IsRowOf M d before row

pub record AreRowsAmong (M : State) (d : DataNodes) (taken : List RoundRecord) (rows : List Row) : Type 0 where
  pub all : All (IsRowAmong M d taken) rows

-- whether a round is one of 1, 1 + stride and so on
abbrev pub is_on_stride : ℕ → ℕ → Bool
is_on_stride round stride = (round - 1) % max stride 1 == 0

-- The rounds of these rows ascend, and all come before round `next`. Each of the rounds 1,
-- 1 + stride and so on before it has a row. The stride is 1 if `next` is below 64.
pub record AreInOrder (next stride : ℕ) (rows : List Row) : Type 0 where
  pub ascend : AllPairs (λ a b. a.round < b.round) rows
  pub before : All (λ r. r.round < next) rows
  pub each : (round : ℕ) → 0 < round → round < next → is_on_stride round stride ≡ true → list_any (λ r. r.round == round) rows ≡ true
  pub fine : next < 64 → stride ≡ 1

-- a row is the last
pub record EndsWith (rows : List Row) (row : Row) : Type 0 where
  pub front : List Row
  pub is : rows ≡ front ++ row ∷ []

-- Rounds led from one state to another; rows and notes have the counts and the answers after them.
pub record IsUnderWay (ticks : Ticks) (M : State) (d : DataNodes) (N : State) (r : Repair) : Type 0 where
  pub at_start : AreAtStart M.cluster d
  pub reached : IsReached r.rounds M N
  pub history : HasTaken ticks M d N r
  pub rows : AreRowsAmong M d history.taken r.rows.rows.items
  pub retired : (n : ℕ) → has r.drained.items n ≡ true → retirement_of r.retired.items n ≡ retired_since history.taken n

-- these are the blocks with a level, ascending
pub record AreLeveled (M : State) (bs : List ℕ) : Type 0 where
  pub ascending : IsStrictlyIncreasing bs
  pub all : (b : ℕ) → has bs b ≡ is_some (level M.cluster M.holdings b)

-- As `IsUnderWay`, and the last row is that of the last round; the watched blocks are those with a
-- level.
pub record IsNoted (ticks : Ticks) (M : State) (d : DataNodes) (N : State) (r : Repair) : Type 0 where
  pub under_way : IsUnderWay ticks M d N r
  pub last : Row
  pub ends : EndsWith r.rows.rows.items last
  pub is_last : IsRowOf M d under_way.history.taken last
  pub blocks : AreLeveled N r.watch.blocks.items

-- a repair stops: no older copy is pending and DataNodes have nothing to do, or it took a million
-- rounds
abbrev pub is_over : ℕ → Repair → Bool
is_over awaited r = (nat_le awaited r.rounds && are_idle r.datanodes) || (r.rounds == 1000000)

-- Rounds led from one state to another, and these are the rows and notes at the end.
pub record HasEnded (ticks : Ticks) (M : State) (d : DataNodes) (N : State) (r : Repair) : Type 0 where
  pub reached : IsReached r.rounds M N
  pub history : HasTaken ticks M d N r
  pub rows : AreRowsAmong M d history.taken r.rows.rows.items
  pub last : Row
  pub ends : EndsWith r.rows.rows.items last
  pub is_last : IsRowOf M d history.taken last
  pub retired : AreRetired ticks N history.taken r
  pub blocks : AreLeveled N r.watch.blocks.items

-- a repair at this pace has led from one state to another
pub record IsDone (pace : Pace) (M N : State) (r : Repair) : Type 0 where
  pub start : DataNodes
  pub at_start : AreAtStart M.cluster start
  pub bandwidth : start.links.bandwidth ≡ pace.bandwidth
  pub ended : HasEnded (ticks_of pace M.cluster) M start N r
  pub over : is_over (awaited_rounds M.holdings.pending M.limits.pend) r ≡ true
  pub in_order : AreInOrder (r.rounds + 1) r.rows.stride r.rows.rows.items

-- of these blocks those with a level, and the level that the manager answers
pub record AreFound (M : State) (bs : List ℕ) (us : List Unmended) : Type 0 where
  pub blocks : map (λ u. u.block) us ≡ filter (λ b. is_some (level M.cluster M.holdings b)) bs
  pub each : All (λ u. level M.cluster M.holdings u.block ≡ Some u.level) us

-- all blocks with a level, ascending, and the level that the manager answers
pub record AreUnmended (M : State) (us : List Unmended) : Type 0 where
  pub blocks : AreLeveled M (map (λ u. u.block) us)
  pub each : All (λ u. level M.cluster M.holdings u.block ≡ Some u.level) us
