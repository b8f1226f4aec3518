use Rattle.bm_saved.proofs.LinesSavedAgain.{restored_nodes_are_saved}
use Rattle.bm_saved.proofs.nodes.restored_nodes_are_saved.Goals as goal

pub returns : goal.returns
returns c = restored_nodes_are_saved
