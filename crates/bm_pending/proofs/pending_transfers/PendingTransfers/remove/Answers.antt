use Rattle.std.proofs.Common.{ap, sym, ◌∙◌}
use Rattle.bm_pending.specs.PendingMap.{PendingMap, blocks_in}
use Rattle.bm_pending.proofs.Changes.{map-removed, ascending-removed, capacity-kept}
use Rattle.bm_pending.proofs.ByIndices.{places-seen}
use Rattle.bm_pending.proofs.pending_transfers.PendingTransfers.remove.Goals as goal

pub invariant_of-self : goal.invariant_of-self
invariant_of-self c = ascending-removed c.self.inside.by_block.entries c.drop_pending.new.blocks.entries c.block.inside.0 c.storage.inside.0 c.drop_pending.ensures.targets c.self.invariant.ascending

pub returns-clause-map : goal.returns-clause-map
returns-clause-map c = rw (← c.self.view_is, ← c.block.view_is, ← c.storage.view_is) (map-removed c.self.inside.by_block.entries c.drop_pending.new.blocks.entries c.block.inside.0 c.storage.inside.0 c.drop_pending.ensures.targets c.self.invariant.ascending)

pub returns-clause-capacities : goal.returns-clause-capacities
returns-clause-capacities c other = capacity-kept c.self.inside.by_block.entries c.args.self.now c.self.view_is c.drop_pending.new.blocks.entries other (c.drop_pending.ensures.capacities other)

pub returns-clause-places : goal.returns-clause-places
returns-clause-places c =
    places-seen c.drop_pending.new.blocks.entries ∙ c.drop_pending.ensures.keys ∙ sym (places-seen c.self.inside.by_block.entries) ∙ ap (λ (p : PendingMap). blocks_in p) c.self.view_is
