use Rattle.std.proofs.Common.{◌≡◌, ◌≤◌, ◌*◌, if◌then◌else◌, take, sum_by}
use Rattle.cluster_losses.specs.LackingBytes.{free_on}
use Rattle.cluster_losses.specs.RowCounts.{is_on_any}
use Rattle.cluster_losses.proofs.row_counts.free_without.Given as goal

abbrev pub invariant-loop-storage : goal.invariant-loop-storage
invariant-loop-storage l = record {
  summed : l.free ≡ sum_by (λ s. if is_on_any l.topology.cluster l.nodes s then 0 else free_on l.topology.cluster s) (take l.storage-index l.storage-items);
  bounded : l.free ≤ 18446744073709551615 * l.storage-index;
}
