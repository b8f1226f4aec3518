use Rattle.std.proofs.Common.{ap}
use Rattle.bm_base.specs.Words.{by_replica}
use Rattle.cluster_report.proofs.TreeMaps.{inserted}
use Rattle.cluster_report.proofs.transfers.Transfers.insert.Goals as goal

pub returns-clause-copies : goal.returns-clause-copies
returns-clause-copies c =
    inserted by_replica c.self.inside.rounds c.args.self.now.copies (ap (λ t. t.copies) c.self.view_is) c.self.invariant c.insert.new.self c.insert.ensures.ordered
    c.args.copy c.args.round c.in_ok-insert.ensures.updates
