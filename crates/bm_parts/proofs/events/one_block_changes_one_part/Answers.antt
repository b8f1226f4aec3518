use Rattle.bm_parts.proofs.OneShard.{one_block_changes_one_part}
use Rattle.bm_parts.proofs.events.one_block_changes_one_part.Goals as goal

pub returns : goal.returns
returns c = one_block_changes_one_part
