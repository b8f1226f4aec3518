use Rattle.bm_pending.proofs.Changes.{map-same, capacity-same, capacity-gone}
use Rattle.bm_pending.proofs.GroupedTransfers.{some-seen, none-seen}
use Rattle.bm_pending.proofs.pending_transfers.PendingTransfers.release_unused.Goals as goal

pub returns-clause-map : goal.returns-clause-map
returns-clause-map c = rw (← c.self.view_is) (map-same c.self.inside.by_block.entries c.release_unused.new.blocks.entries c.release_unused.ensures.targets)

pub returns-clause-kept : goal.returns-clause-kept
returns-clause-kept c block some =
    capacity-same c.self.inside.by_block.entries c.args.self.now c.self.view_is c.release_unused.new.blocks.entries block
    (c.release_unused.ensures.kept block (some-seen c.self.inside.by_block.entries block c.self.invariant.ascending (rw (← c.self.view_is) at some)))

pub returns-clause-freed : goal.returns-clause-freed
returns-clause-freed c block none =
    capacity-gone c.release_unused.new.blocks.entries block
    (c.release_unused.ensures.freed block (none-seen c.self.inside.by_block.entries block c.self.invariant.ascending (rw (← c.self.view_is) at none)))
