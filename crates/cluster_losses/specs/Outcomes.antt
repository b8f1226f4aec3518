-- The counts of a cluster after losses, and the lost blocks.
use Rattle.std.specs.Prelude.{◌≡◌, ℕ, ◌+◌, ◌-◌, ◌^◌, ◌≤◌, Bool, if◌then◌else◌, List, map, length, Some, slice_get}
use Rattle.bm_base.specs.declared.event.Event.{Event}
use Rattle.bm_base.specs.Words.{State, is_multi_rack, missing_blocks}
use Rattle.cluster_lost.specs.Losses.{after_losses, lost_blocks}
use Rattle.cluster_lost.specs.Rows.{IsRowWithin}
use Rattle.cluster_lost.specs.Tallies.{AreWithin}
use Rattle.cluster_lost.specs.declared.block_pass.BlockPass.{BlockPass}
use Rattle.cluster_lost.specs.declared.block_pass.RowTally.{RowTally}
use Rattle.cluster_lost.specs.declared.tally.Tally.{Tally}
use Rattle.cluster_report.specs.Levels.{levels_counted}
use Rattle.cluster_report.specs.declared.levels.LevelCounts.{LevelCounts}
use Rattle.cluster_report.specs.Reports.{levels_held}
use Rattle.cluster_losses.specs.Events.{death}
use Rattle.cluster_losses.specs.declared.failure_domains.FailureDomain.{FailureDomain}
use Rattle.cluster_losses.specs.LackingBytes.{lacking_bytes, in_128_bits, free_for_copies}
use Rattle.cluster_losses.specs.declared.cluster_counts.ClusterCounts.{ClusterCounts}
use Rattle.cluster_losses.specs.declared.applied_losses.Outcome.{Outcome}

-- The counts of a state: blocks at each level, missing blocks, bytes of the copies that blocks
-- lack, and free bytes on nodes that do not drain.
pub record AreClusterCounts (M : State) (s : ClusterCounts) : Type 0 where
  pub levels : s.levels ≡ levels_counted (levels_held M) (length (missing_blocks M.cluster M.holdings))
  pub missing : s.missing ≡ missing_blocks M.cluster M.holdings
  pub lacking : s.lacking ≡ in_128_bits (lacking_bytes M)
  pub free : s.free ≡ free_for_copies M.cluster

-- The outcome of losses: the lost blocks, and the counts of the cluster after them.
pub record IsOutcome (M : State) (es : List Event) (w : Outcome) : Type 0 where
  pub lost : w.lost ≡ lost_blocks M es
  pub counts : AreClusterCounts (after_losses M es) w.after

-- The blocks of a tally by level, in a cluster of several racks or of one. On one rack no block is
-- badly distributed.
abbrev pub levels_by : Tally → Bool → ℕ → LevelCounts
levels_by t multi missing = record {
  highest = t.highest;
  very_under_replicated = t.very_under_replicated;
  under_replicated = t.under_replicated;
  badly_distributed = if multi then t.badly_distributed else 0;
  missing = missing;
  none = if multi then t.none else t.none + t.badly_distributed;
}

-- a tally of all blocks without what a row loses
abbrev pub left_of : Tally → RowTally → Tally
left_of all r = record {
  highest = (all.highest + r.after.highest) - r.before.highest;
  very_under_replicated = (all.very_under_replicated + r.after.very_under_replicated) - r.before.very_under_replicated;
  under_replicated = (all.under_replicated + r.after.under_replicated) - r.before.under_replicated;
  badly_distributed = (all.badly_distributed + r.after.badly_distributed) - r.before.badly_distributed;
  none = (all.none + r.after.none) - r.before.none;
  lacking = (all.lacking + r.after.lacking) - r.before.lacking;
}

-- the numbers of `left_of` fit their types
pub record CanLeave (all : Tally) (r : RowTally) : Type 0 where
  pub small : AreWithin (2 ^ 59) all
  pub small_row : IsRowWithin (2 ^ 59) r
  pub highest : r.before.highest ≤ all.highest + r.after.highest
  pub very_under_replicated : r.before.very_under_replicated ≤ all.very_under_replicated + r.after.very_under_replicated
  pub under_replicated : r.before.under_replicated ≤ all.under_replicated + r.after.under_replicated
  pub badly_distributed : r.before.badly_distributed ≤ all.badly_distributed + r.after.badly_distributed
  pub none : r.before.none ≤ all.none + r.after.none
  pub lacking : r.before.lacking ≤ all.lacking + r.after.lacking

-- What a row's tallies say of the state after the deaths of these nodes.
pub record IsTallied (M : State) (ns : List ℕ) (all : Tally) (r : RowTally) : Type 0 where
  pub can : CanLeave all r
  pub levels : (m : ℕ) → levels_by (left_of all r) (is_multi_rack (after_losses M (map death ns)).cluster) m ≡ levels_counted (levels_held (after_losses M (map death ns))) m
  pub lacking : (left_of all r).lacking ≡ in_128_bits (lacking_bytes (after_losses M (map death ns)))
  pub lost : r.lost ≡ lost_blocks M (map death ns)

-- the rows of a pass have the tallies of these failure domains
pub record AreTallied (M : State) (domains : List FailureDomain) (p : BlockPass) : Type 0 where
  pub count : length p.rows.items ≡ length domains
  pub each : (k : ℕ) (d : FailureDomain) (r : RowTally) → slice_get domains k ≡ Some d → slice_get p.rows.items k ≡ Some r → IsTallied M d.nodes p.all r
