use Rattle.laws_of_events.proofs.BlockChanges.{block_restamped}
use Rattle.laws_of_events.proofs.changes.restamped_block_has_no_good_replica.Goals as goal

pub returns : goal.returns
returns c = block_restamped
