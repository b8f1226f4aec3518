use Rattle.std.proofs.Common.{arith}
use Rattle.std.proofs.lemmas.Grind.{common_steps}
use Rattle.puljemrod.proofs.spare_lists.push_rows.Goals as goal

pub loop-row-preserved : goal.loop-row-preserved
loop-row-preserved c =
    let inv = c.loop-row.invariant in
    record {
      items = grind (arith, common_steps);
      count = omega (arith, inv.count, c.push_reserved.ensures.len);
      capacity = omega (arith, inv.capacity, c.push_reserved.ensures.capacity);
    }
