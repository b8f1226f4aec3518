use Rattle.std.proofs.Common.{◌≤◌, ◌*◌, ◌^◌, arith}
use Rattle.std.proofs.lemmas.Nat.{mul-le}
use Rattle.cluster_lost.proofs.sources.bytes_of.Goals as goal

pub overflow_mul-result : goal.overflow_mul-result
overflow_mul-result c =
    let r = c.from.result in
    let small : r ≤ 2 ^ 64 = omega (arith, c.from.ensures, c.ranges.len) in
    let product : c.args.copies * r ≤ 16 * 2 ^ 64 = mul-le c.args.copies r 16 (2 ^ 64) c.requires small in
    omega (arith, product)
