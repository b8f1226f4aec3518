use Rattle.std.proofs.Common.{◌≡◌, ◌≤◌, ◌*◌, take}
use Rattle.cluster_report.specs.Catalogues.{len_in}
use Rattle.cluster_report.specs.Levels.{bytes_at}
use Rattle.cluster_report.proofs.levels.bytes_at.Given as goal

abbrev pub invariant-loop-found : goal.invariant-loop-found
invariant-loop-found l = record {
  summed : l.total ≡ bytes_at (len_in l.catalogue) l.urgency (take l.found-index l.levels);
  bounded : l.total ≤ 18446744073709551615 * l.found-index;
}
