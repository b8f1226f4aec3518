use Rattle.bm_parts.proofs.SettledBlocks.{drain_keeps_settled}
use Rattle.bm_parts.proofs.settled_blocks.drain_keeps_settled.Goals as goal

pub returns : goal.returns
returns c = drain_keeps_settled
