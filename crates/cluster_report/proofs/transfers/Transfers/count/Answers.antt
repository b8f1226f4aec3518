use Rattle.std.proofs.Common.{ap, ◌∙◌}
use Rattle.bm_base.specs.Words.{by_replica}
use Rattle.cluster_report.proofs.TreeMaps.{length-tree}
use Rattle.cluster_report.proofs.transfers.Transfers.count.Goals as goal

pub returns : goal.returns
returns c = c.len.ensures.len ∙ length-tree by_replica c.self.inside.rounds c.args.self.now.copies (ap (λ t. t.copies) c.self.view_is) c.self.invariant
