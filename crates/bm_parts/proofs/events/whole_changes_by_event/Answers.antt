use Rattle.bm_parts.proofs.PartChanges.{whole_changes_by_event}
use Rattle.bm_parts.proofs.events.whole_changes_by_event.Goals as goal

pub returns : goal.returns
returns c = whole_changes_by_event
