use Rattle.std.proofs.Common.{◌≡◌, map, take}
use Rattle.cluster_what_if.specs.Picture.{counts_of_row}
use Rattle.cluster_what_if.proofs.repair_picture.counts_of.Given as goal

abbrev pub invariant-loop-row : goal.invariant-loop-row
invariant-loop-row l = l.counts.items ≡ map counts_of_row (take l.row-index l.rows)
