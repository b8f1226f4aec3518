use Rattle.cluster_repair.specs.Reports.{deleted}
use Rattle.cluster_repair.proofs.Reach.{reported_more, reported_all}
use Rattle.cluster_repair.proofs.datanodes.report_deletes.Goals as goal

pub loop-delete-preserved : goal.loop-delete-preserved
loop-delete-preserved g c =
    reported_more deleted c.args.deletes.now c.loop-delete.delete-index c.delete-item.result c.args.manager.now c.loop-delete.manager c.report_delete.new.manager c.args.watch.now.blocks.items
    c.loop-delete.watch.blocks.items c.report_delete.new.watch.blocks.items c.loop-delete-test.true c.delete-item.is c.loop-delete.invariant c.in_ok-report_delete.ensures

pub returns : goal.returns
returns g c =
    reported_all deleted c.args.deletes.now c.loop-delete.delete-index c.args.manager.now c.loop-delete.manager c.args.watch.now.blocks.items c.loop-delete.watch.blocks.items
    c.loop-delete-test.false c.loop-delete.invariant
