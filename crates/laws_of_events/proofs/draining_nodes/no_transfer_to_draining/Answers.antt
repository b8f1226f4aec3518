use Rattle.laws_of_events.proofs.NoTransferToDraining.{none_sent_there}
use Rattle.laws_of_events.proofs.draining_nodes.no_transfer_to_draining.Goals as goal

pub returns : goal.returns
returns c = none_sent_there
