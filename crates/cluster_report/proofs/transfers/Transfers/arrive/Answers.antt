use Rattle.std.proofs.Common.{ap}
use Rattle.bm_base.specs.Words.{by_replica, replica_at}
use Rattle.cluster_report.proofs.TreeMaps.{removed}
use Rattle.cluster_report.proofs.transfers.Transfers.arrive.Goals as goal

pub returns-clause-copies : goal.returns-clause-copies
returns-clause-copies c =
    removed by_replica c.self.inside.rounds c.args.self.now.copies (ap (λ t. t.copies) c.self.view_is) c.self.invariant c.remove.new.self c.remove.ensures.ordered
    (replica_at c.args.block c.args.storage) c.remove.ensures.updates
