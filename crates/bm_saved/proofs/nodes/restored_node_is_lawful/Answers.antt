use Rattle.bm_saved.proofs.LawfulNodes.{restored_node_is_lawful}
use Rattle.bm_saved.proofs.nodes.restored_node_is_lawful.Goals as goal

pub returns : goal.returns
returns c = restored_node_is_lawful
