use Rattle.bm_parts.proofs.ReplicaRacks.{round_keeps_racked}
use Rattle.bm_parts.proofs.levels.round_keeps_racked.Goals as goal

pub returns : goal.returns
returns c = round_keeps_racked
