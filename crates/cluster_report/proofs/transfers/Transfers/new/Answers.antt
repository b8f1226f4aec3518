use Rattle.bm_base.proofs.OfSorted.{of_sorted-nil}
use Rattle.bm_base.specs.Words.{by_replica}
use Rattle.cluster_report.proofs.transfers.Transfers.new.Goals as goal

pub returns-clause-copies : goal.returns-clause-copies
returns-clause-copies c = of_sorted-nil by_replica _ c.new.ensures.empty
