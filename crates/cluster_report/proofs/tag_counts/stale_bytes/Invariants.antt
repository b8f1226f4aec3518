use Rattle.std.proofs.Common.{◌≡◌, ◌≤◌, ◌*◌, take}
use Rattle.bm_base.specs.Machine.Replicas.{is_stale}
use Rattle.cluster_report.specs.Catalogues.{len_in}
use Rattle.cluster_report.specs.TagTotals.{bytes_where}
use Rattle.cluster_report.proofs.tag_counts.stale_bytes.Given as goal

abbrev pub invariant-loop-replica : goal.invariant-loop-replica
invariant-loop-replica l = record {
  summed : l.total ≡ bytes_where (len_in l.catalogue) is_stale (take l.replica-index l.replicas);
  bounded : l.total ≤ 18446744073709551615 * l.replica-index;
}
