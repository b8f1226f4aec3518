use Rattle.cluster_repair.proofs.Reach.{reported_delete}
use Rattle.cluster_repair.proofs.datanodes.report_delete.Goals as goal

pub returns : goal.returns
returns g c =
    reported_delete c.args.manager.now c.apply.new.manager c.args.watch.now.blocks.items c.add.new.self.blocks.items c.args.delete.now
    c.in_ok-apply.ensures.accepted c.in_ok-apply.ensures.state c.in_ok-add.ensures
