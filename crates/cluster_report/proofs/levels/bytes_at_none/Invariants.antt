use Rattle.std.proofs.Common.{◌≡◌, ◌≤◌, ◌*◌, take, sum_by, is_none, if◌then◌else◌}
use Rattle.cluster_report.specs.Catalogues.{len_in}
use Rattle.cluster_report.proofs.levels.bytes_at_none.Given as goal

abbrev pub invariant-loop-found : goal.invariant-loop-found
invariant-loop-found l = record {
  summed : l.total ≡ sum_by (λ f. if is_none f.level then len_in l.catalogue f.block else 0) (take l.found-index l.levels);
  bounded : l.total ≤ 18446744073709551615 * l.found-index;
}
