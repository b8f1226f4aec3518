use Rattle.bm_parts.proofs.ReplicaRacks.{event_keeps_racked}
use Rattle.bm_parts.proofs.levels.event_keeps_racked.Goals as goal

pub returns : goal.returns
returns c = event_keeps_racked
