use Rattle.laws_of_events.proofs.BlockChanges.{unnamed_left}
use Rattle.laws_of_events.proofs.changes.report_leaves_unnamed_blocks.Goals as goal

pub returns : goal.returns
returns c = unnamed_left
