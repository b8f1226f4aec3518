use Rattle.bm_parts.proofs.WellPlaced.{event_keeps_placed}
use Rattle.bm_parts.proofs.replica_storages.event_keeps_placed.Goals as goal

pub returns : goal.returns
returns c = event_keeps_placed
