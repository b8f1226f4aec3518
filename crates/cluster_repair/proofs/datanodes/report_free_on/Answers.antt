use Rattle.cluster_repair.proofs.Reach.{reported_free}
use Rattle.cluster_repair.proofs.datanodes.report_free_on.Goals as goal

pub returns : goal.returns
returns g c bs =
    reported_free c.args.manager.now c.apply.new.manager bs c.args.free.now c.args.node.now c.in_ok-remaining.remaining c.in_ok-remaining.ensures
    c.in_ok-apply.ensures.accepted c.in_ok-apply.ensures.state
