use Rattle.bm_saved.proofs.NodeEvents.{node_is_restored_by_events}
use Rattle.bm_saved.proofs.nodes.node_is_restored_by_events.Goals as goal

pub returns : goal.returns
returns c = node_is_restored_by_events
