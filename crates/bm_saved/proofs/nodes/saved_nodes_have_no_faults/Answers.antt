use Rattle.bm_saved.proofs.NodesWithoutFaults.{saved_nodes_have_no_faults}
use Rattle.bm_saved.proofs.nodes.saved_nodes_have_no_faults.Goals as goal

pub returns : goal.returns
returns c = saved_nodes_have_no_faults
