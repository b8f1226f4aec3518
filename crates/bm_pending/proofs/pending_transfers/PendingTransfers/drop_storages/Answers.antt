use Rattle.std.proofs.Common.{not}
use Rattle.bm_base.specs.Maps.Lists.{has}
use Rattle.bm_pending.proofs.Changes.{map-kept, ascending-kept, capacity-kept}
use Rattle.bm_pending.proofs.pending_transfers.PendingTransfers.drop_storages.Goals as goal

pub invariant_of-self : goal.invariant_of-self
invariant_of-self c = ascending-kept c.self.inside.by_block.entries c.drop_targets_on.new.blocks.entries (λ k _. not (has c.args.storages.now k)) c.drop_targets_on.ensures.targets c.self.invariant.ascending

pub returns-clause-map : goal.returns-clause-map
returns-clause-map c = rw (← c.self.view_is) (map-kept c.self.inside.by_block.entries c.drop_targets_on.new.blocks.entries (λ k _. not (has c.args.storages.now k)) c.drop_targets_on.ensures.targets c.self.invariant.ascending)

pub returns-clause-capacities : goal.returns-clause-capacities
returns-clause-capacities c other = capacity-kept c.self.inside.by_block.entries c.args.self.now c.self.view_is c.drop_targets_on.new.blocks.entries other (c.drop_targets_on.ensures.capacities other)
