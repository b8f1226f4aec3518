use Rattle.bm_saved.proofs.NodesSavedAgain.{restored_node_is_saved}
use Rattle.bm_saved.proofs.nodes.restored_node_is_saved.Goals as goal

pub returns : goal.returns
returns c = restored_node_is_saved
