use Rattle.std.proofs.Common.{arith}
use Rattle.fsck_import.specs.CallsFor.{reports}
use Rattle.cluster_input.proofs.MakeLemmas.{rows_at}
use Rattle.cluster_input.proofs.calls.make_reports.Goals as goal

pub loop-row-preserved : goal.loop-row-preserved
loop-row-preserved g c = record {
  made = rows_at reports c.args.cluster.now.rows c.loop-row.row-index c.row-item.result _ _ _
      (rw (← c.as_slice-row-items.ensures) (omega (arith, c.loop-row-test.true)))
      (rw c.as_slice-row-items.ensures at c.row-item.is) c.loop-row.invariant.made c.in_ok-make_row.ensures.made;
  in_step = c.in_ok-make_row.ensures.in_step;
}
