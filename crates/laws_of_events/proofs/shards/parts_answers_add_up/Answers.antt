use Rattle.bm_parts.proofs.PartSums.{answers_add_up}
use Rattle.laws_of_events.proofs.shards.parts_answers_add_up.Goals as goal

pub returns : goal.returns
returns c = answers_add_up
