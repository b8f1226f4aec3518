use Rattle.bm_parts.proofs.PartChanges.{done_adds_up}
use Rattle.bm_parts.proofs.events.done_adds_up.Goals as goal

pub returns : goal.returns
returns c = done_adds_up
