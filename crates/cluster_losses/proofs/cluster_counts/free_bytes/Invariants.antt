use Rattle.std.proofs.Common.{◌≡◌, ◌≤◌, ◌*◌, take, sum_by}
use Rattle.cluster_losses.specs.LackingBytes.{free_on}
use Rattle.cluster_losses.proofs.cluster_counts.free_bytes.Given as goal

abbrev pub invariant-loop-storage : goal.invariant-loop-storage
invariant-loop-storage l = record {
  summed : l.free ≡ sum_by (free_on l.topology.cluster) (take l.storage-index l.storage-items);
  bounded : l.free ≤ 18446744073709551615 * l.storage-index;
}
