use Rattle.bm_saved.proofs.RestoredParts.{restored_in_one_part}
use Rattle.bm_saved.proofs.blocks.restored_in_one_part.Goals as goal

pub returns : goal.returns
returns c = restored_in_one_part
