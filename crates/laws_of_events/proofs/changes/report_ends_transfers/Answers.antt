use Rattle.laws_of_events.proofs.BlockChanges.{transfers_reported}
use Rattle.laws_of_events.proofs.changes.report_ends_transfers.Goals as goal

pub returns : goal.returns
returns c = transfers_reported
