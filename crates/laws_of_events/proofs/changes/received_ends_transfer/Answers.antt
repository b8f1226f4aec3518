use Rattle.laws_of_events.proofs.BlockChanges.{transfer_received}
use Rattle.laws_of_events.proofs.changes.received_ends_transfer.Goals as goal

pub returns : goal.returns
returns c = transfer_received
