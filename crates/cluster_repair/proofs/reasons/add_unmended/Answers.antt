use Rattle.cluster_repair.proofs.ReasonLemmas.{reason_and}
use Rattle.cluster_repair.proofs.reasons.add_unmended.Goals as goal

pub returns-clause-reasons : goal.returns-clause-reasons
returns-clause-reasons c before =
    reason_and c.args.session.now.book c.args.session.now.manager.holdings c.args.free.now c.args.replicas.now c.args.found.now.items c.push.new.self.items _
    c.in_ok-push.ensures.items c.requires c.reason_of-reason.ensures before
