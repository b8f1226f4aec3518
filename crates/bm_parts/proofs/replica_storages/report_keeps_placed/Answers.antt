use Rattle.bm_parts.proofs.WellPlaced.{report_keeps_placed}
use Rattle.bm_parts.proofs.replica_storages.report_keeps_placed.Goals as goal

pub returns : goal.returns
returns c = report_keeps_placed
