use Rattle.std.proofs.Common.{◌≡◌, ◌≤◌, ◌*◌, take, sum_by}
use Rattle.cluster_report.specs.Catalogues.{len_in}
use Rattle.cluster_report.proofs.catalogue.Catalogue.bytes_of.Given as goal

abbrev pub invariant-loop-block : goal.invariant-loop-block
invariant-loop-block l = record {
  summed : l.total ≡ sum_by (len_in l.self) (take l.block-index l.blocks);
  bounded : l.total ≤ 18446744073709551615 * l.block-index;
}
