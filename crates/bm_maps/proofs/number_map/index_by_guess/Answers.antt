use Rattle.std.proofs.Common.{arith}
use Rattle.std.specs.Ordering.{nat_cmp}
use Rattle.std.specs.Cmp.{nat_cmp_total}
use Rattle.bm_maps.proofs.BinarySearch.{index_within}
use Rattle.bm_maps.proofs.number_map.index_by_guess.Goals as goal

pub narrow-low-requires-clause-bounds : goal.narrow-low-requires-clause-bounds
narrow-low-requires-clause-bounds g c =
    (omega arith, index_within nat_cmp nat_cmp_total c.args.key c.args.entries.now, omega arith)
