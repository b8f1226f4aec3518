use Rattle.bm_parts.proofs.Parts.{cut_is_part}
use Rattle.laws_of_events.proofs.shards.cut_gives_parts.Goals as goal

pub returns : goal.returns
returns c H index shards = cut_is_part index shards H
