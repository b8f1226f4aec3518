use Rattle.bm_parts.proofs.WellPlaced.{round_keeps_placed}
use Rattle.bm_parts.proofs.replica_storages.round_keeps_placed.Goals as goal

pub returns : goal.returns
returns c = round_keeps_placed
