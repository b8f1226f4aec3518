-- A table of the losses if each of some racks or nodes dies alone.
use Rattle.std.specs.Prelude.{◌≡◌, List, [], map, length}
use Rattle.std.specs.declared.cmp.Ordering.{Ordering}
use Rattle.std.specs.Ordering.{nat_cmp, ordering_then}
use Rattle.std.specs.List.{AllZip}
use Rattle.std.specs.List.Sorted.{IsPermutation, IsSorted}
use Rattle.bm_base.specs.Words.{State}
use Rattle.cluster_names.specs.FileTable.{FileTable}
use Rattle.cluster_report.specs.declared.levels.LevelCounts.{LevelCounts}
use Rattle.cluster_pages.specs.AtRisk.{AreAtRisk}
use Rattle.cluster_pages.specs.declared.files_at_risk.AtRisk.{AtRisk}
use Rattle.cluster_losses.specs.Events.{death}
use Rattle.cluster_losses.specs.Outcomes.{IsOutcome}
use Rattle.cluster_losses.specs.declared.failure_domains.FailureDomain.{FailureDomain}
use Rattle.cluster_losses.specs.declared.single_losses.Row.{Row}

-- a row has the number of files of its lost blocks
pub record HasLostFiles (f : FileTable) (row : Row) : Type 0 where
  pub risk : AtRisk
  pub files : AreAtRisk f row.without.lost [] risk
  pub count : row.lost_files ≡ length risk.lost

-- a row has the losses if the nodes of a failure domain die in this state
pub record IsRowAt (f : FileTable) (M : State) (domain : FailureDomain) (row : Row) : Type 0 where
  pub number : row.number ≡ domain.number
  pub nodes : row.nodes ≡ length domain.nodes
  pub outcome : IsOutcome M (map death domain.nodes) row.without
  pub files : HasLostFiles f row

-- more blocks at the highest level come first; then more very under-replicated ones; then more
-- under-replicated ones
abbrev pub levels_cmp : LevelCounts → LevelCounts → Ordering
levels_cmp a b =
    ordering_then (nat_cmp b.highest a.highest)
    (ordering_then (nat_cmp b.very_under_replicated a.very_under_replicated) (nat_cmp b.under_replicated a.under_replicated))

-- the worst comes first: with more lost blocks; then by the levels after the loss; then by number
abbrev pub row_cmp : Row → Row → Ordering
row_cmp a b =
    ordering_then (nat_cmp (length b.without.lost) (length a.without.lost))
    (ordering_then (levels_cmp a.without.after.levels b.without.after.levels) (nat_cmp a.number b.number))

-- For each failure domain a row of the losses if it alone dies in this state, the worst first.
pub record AreRows (f : FileTable) (M : State) (domains : List FailureDomain) (rows : List Row) : Type 0 where
  pub made : List Row
  pub each : AllZip (IsRowAt f M) domains made
  pub moved : IsPermutation made rows
  pub worst_first : IsSorted row_cmp rows
