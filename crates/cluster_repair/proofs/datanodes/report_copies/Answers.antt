use Rattle.cluster_repair.specs.Reports.{received}
use Rattle.cluster_repair.proofs.Reach.{reported_more, reported_all}
use Rattle.cluster_repair.proofs.datanodes.report_copies.Goals as goal

pub loop-sent-preserved : goal.loop-sent-preserved
loop-sent-preserved g c =
    reported_more received c.args.due.now c.loop-sent.sent-index c.sent-item.result c.args.manager.now c.loop-sent.manager c.report_copy.new.manager c.args.watch.now.blocks.items
    c.loop-sent.watch.blocks.items c.report_copy.new.watch.blocks.items c.loop-sent-test.true c.sent-item.is c.loop-sent.invariant c.in_ok-report_copy.ensures

pub returns : goal.returns
returns g c =
    reported_all received c.args.due.now c.loop-sent.sent-index c.args.manager.now c.loop-sent.manager c.args.watch.now.blocks.items c.loop-sent.watch.blocks.items
    c.loop-sent-test.false c.loop-sent.invariant
