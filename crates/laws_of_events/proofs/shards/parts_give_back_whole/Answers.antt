use Rattle.bm_parts.proofs.Parts.{whole_from_parts}
use Rattle.laws_of_events.proofs.shards.parts_give_back_whole.Goals as goal

pub returns : goal.returns
returns c = whole_from_parts
