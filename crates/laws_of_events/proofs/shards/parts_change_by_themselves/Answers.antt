use Rattle.bm_parts.proofs.Parts.{parts_changed}
use Rattle.laws_of_events.proofs.shards.parts_change_by_themselves.Goals as goal

pub returns : goal.returns
returns c = parts_changed
