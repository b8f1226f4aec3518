use Rattle.laws_of_events.proofs.BlockChanges.{leaves_other_blocks}
use Rattle.laws_of_events.proofs.changes.event_leaves_other_blocks.Goals as goal

pub returns : goal.returns
returns c = leaves_other_blocks
