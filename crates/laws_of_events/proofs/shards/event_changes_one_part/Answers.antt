use Rattle.bm_parts.proofs.Parts.{one_part_changed}
use Rattle.laws_of_events.proofs.shards.event_changes_one_part.Goals as goal

pub returns : goal.returns
returns c = one_part_changed
