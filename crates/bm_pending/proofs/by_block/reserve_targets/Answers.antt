use Rattle.std.proofs.Common.{◌≤◌, cond, nat_eq, Some, ap, sym, subst, ◌∙◌}
use Rattle.std.specs.Map.{lookup}
use Rattle.bm_pending.specs.Inside.{capacity_at}
use Rattle.bm_pending.proofs.Blocks.{items_or, capacity_or, fresh-targets, fresh-capacities}
use Rattle.bm_pending.proofs.by_block.reserve_targets.Goals as goal

pub returns-in_ok-insert-in-None-clause-targets : goal.returns-in_ok-insert-in-None-clause-targets
returns-in_ok-insert-in-None-clause-targets c q =
    ap items_or (c.in_ok-insert-in-None.ensures.updates.0 q)
    ∙ ap (λ m. items_or (cond (nat_eq c.args.block q) (Some c.reserve-in-None.new.self) (lookup (nat_eq q) m.entries))) c.get_mut.follows.holds-at-none
    ∙ fresh-targets c.args.blocks.now.entries c.args.block c.reserve-in-None.new.self (sym c.in-None.ensures.value) (c.reserve-in-None.ensures.items ∙ c.new-targets.ensures.items) q

pub returns-in_ok-insert-in-None-clause-capacities : goal.returns-in_ok-insert-in-None-clause-capacities
returns-in_ok-insert-in-None-clause-capacities c q =
    subst (λ o. capacity_at c.args.blocks.now.entries q ≤ capacity_or o)
    (sym (c.in_ok-insert-in-None.ensures.updates.0 q ∙ ap (λ m. cond (nat_eq c.args.block q) (Some c.reserve-in-None.new.self) (lookup (nat_eq q) m.entries)) c.get_mut.follows.holds-at-none))
    (fresh-capacities c.args.blocks.now.entries c.args.block c.reserve-in-None.new.self (sym c.in-None.ensures.value) q)
