use Rattle.bm_parts.proofs.SettledBlocks.{round_keeps_settled}
use Rattle.bm_parts.proofs.settled_blocks.round_keeps_settled.Goals as goal

pub returns : goal.returns
returns c = round_keeps_settled
