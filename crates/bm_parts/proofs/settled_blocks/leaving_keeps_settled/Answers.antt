use Rattle.bm_parts.proofs.SettledBlocks.{leaving_keeps_settled}
use Rattle.bm_parts.proofs.settled_blocks.leaving_keeps_settled.Goals as goal

pub returns : goal.returns
returns c = leaving_keeps_settled
