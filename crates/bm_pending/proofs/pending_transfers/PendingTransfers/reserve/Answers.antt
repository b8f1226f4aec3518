use Rattle.std.proofs.Common.{sym, ap, subst, ◌∙◌, ◌≤◌}
use Rattle.std.specs.Prelude.{OnOk}
use Rattle.bm_pending.specs.PendingMap.{capacity}
use Rattle.bm_pending.specs.Inside.{map_of}
use Rattle.bm_pending.proofs.Changes.{map-same, capacity-seen, capacity-kept, capacity-enough, shown}
use Rattle.bm_pending.proofs.pending_transfers.PendingTransfers.reserve.Goals as goal

pub returns-clause-map : goal.returns-clause-map
returns-clause-map c = rw (← c.self.view_is) (map-same c.self.inside.by_block.entries c.reserve_targets.new.blocks.entries c.reserve_targets.ensures.targets)

pub returns-clause-capacity : goal.returns-clause-capacity
returns-clause-capacity c =
    subst (λ n. OnOk c.reserve_targets.result (c.args.additional ≤ n))
    (sym (ap (capacity (shown c.reserve_targets.new.blocks.entries)) (sym c.block.view_is) ∙ capacity-seen (map_of c.reserve_targets.new.blocks.entries) c.reserve_targets.new.blocks.entries c.block.inside.0)) c.reserve_targets.ensures.capacity

pub returns-clause-capacities : goal.returns-clause-capacities
returns-clause-capacities c other = capacity-kept c.self.inside.by_block.entries c.args.self.now c.self.view_is c.reserve_targets.new.blocks.entries other (c.reserve_targets.ensures.capacities other)

pub returns-clause-succeeds : goal.returns-clause-succeeds
returns-clause-succeeds c some enough = c.reserve_targets.ensures.succeeds some (capacity-enough c.self.inside.by_block.entries c.args.self.now c.self.view_is c.block.inside.0 c.args.additional (rw (← c.block.view_is) at enough))
