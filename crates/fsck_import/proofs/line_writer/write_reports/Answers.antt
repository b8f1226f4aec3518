use Rattle.std.proofs.Common.{arith}
use Rattle.fsck_import.specs.CallsFor.{reports}
use Rattle.fsck_import.proofs.WriteLemmas.{rows_at}
use Rattle.fsck_import.proofs.line_writer.write_reports.Goals as goal

pub loop-row-preserved : goal.loop-row-preserved
loop-row-preserved g c =
    rows_at reports c.args.cluster.now.rows c.loop-row.row-index c.row-item.result _ _ _
    (rw (← c.as_slice-row-items.ensures) (omega (arith, c.loop-row-test.true)))
    (rw c.as_slice-row-items.ensures at c.row-item.is) c.loop-row.invariant c.in_ok-write_row.ensures.written
