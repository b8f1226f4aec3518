use Rattle.bm_pending.proofs.Changes.{map-block_removed, capacity-dropped}
use Rattle.bm_pending.proofs.pending_transfers.PendingTransfers.remove_block.Goals as goal

pub returns-clause-map : goal.returns-clause-map
returns-clause-map c = rw (← c.self.view_is, ← c.block.view_is) (map-block_removed c.self.inside.by_block.entries c.drop_block.new.blocks.entries c.block.inside.0 c.drop_block.ensures.targets)

pub returns-clause-capacities : goal.returns-clause-capacities
returns-clause-capacities c other = rw (← c.block.view_is) (capacity-dropped c.self.inside.by_block.entries c.args.self.now c.self.view_is c.drop_block.new.blocks.entries c.block.inside.0 other (c.drop_block.ensures.capacities other))
