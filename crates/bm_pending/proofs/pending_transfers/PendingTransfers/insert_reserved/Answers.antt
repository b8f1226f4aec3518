use Rattle.bm_pending.proofs.Changes.{map-inserted, ascending-inserted, capacity-used, capacity-had}
use Rattle.bm_pending.proofs.pending_transfers.PendingTransfers.insert_reserved.Goals as goal

pub put_target-requires-clause-capacity : goal.put_target-requires-clause-capacity
put_target-requires-clause-capacity c = capacity-had c.self.inside.by_block.entries c.args.self.now c.self.view_is c.block.inside.0 0 (rw (← c.block.view_is) at c.requires)

pub invariant_of-self : goal.invariant_of-self
invariant_of-self c = ascending-inserted c.self.inside.by_block.entries c.put_target.new.blocks.entries c.block.inside.0 c.storage.inside.0 c.args.round c.put_target.ensures.targets c.self.invariant.ascending

pub returns-clause-map : goal.returns-clause-map
returns-clause-map c = rw (← c.self.view_is, ← c.block.view_is, ← c.storage.view_is) (map-inserted c.self.inside.by_block.entries c.put_target.new.blocks.entries c.block.inside.0 c.storage.inside.0 c.args.round c.put_target.ensures.targets)

pub returns-clause-capacities : goal.returns-clause-capacities
returns-clause-capacities c other = rw (← c.block.view_is) (capacity-used c.self.inside.by_block.entries c.args.self.now c.self.view_is c.put_target.new.blocks.entries c.block.inside.0 other (c.put_target.ensures.capacities other))
