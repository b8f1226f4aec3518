use Rattle.bm_pending.proofs.Changes.{map_of-nil, capacity-nil}
use Rattle.bm_pending.proofs.pending_transfers.PendingTransfers.new.Goals as goal

pub returns-clause-map : goal.returns-clause-map
returns-clause-map c = map_of-nil c.with_hasher.result.entries c.with_hasher.ensures.empty

pub returns-clause-capacity : goal.returns-clause-capacity
returns-clause-capacity c block = capacity-nil c.with_hasher.result.entries block c.with_hasher.ensures.empty
