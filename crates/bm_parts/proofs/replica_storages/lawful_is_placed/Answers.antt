use Rattle.bm_parts.proofs.WellPlaced.{lawful_is_placed}
use Rattle.bm_parts.proofs.replica_storages.lawful_is_placed.Goals as goal

pub returns : goal.returns
returns c = lawful_is_placed
