use Rattle.std.proofs.Common.{◌≡◌, ◌≤◌, ◌*◌, take, sum_by}
use Rattle.cluster_pages.proofs.text_parts.replicas_on.Given as goal

abbrev pub invariant-loop-row : goal.invariant-loop-row
invariant-loop-row l = record {
  summed : l.total ≡ sum_by (λ s. s.replicas) (take l.row-index l.rows);
  bounded : l.total ≤ 18446744073709551615 * l.row-index;
}
