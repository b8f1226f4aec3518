use Rattle.std.proofs.Common.{◌≤◌, ◌+◌, cond, nat_eq, is_some, ap, sym, subst}
use Rattle.bm_pending.specs.Inside.{capacity_at}
use Rattle.bm_pending.proofs.Blocks.{capacity_or, written-capacities, put-capacity}
use Rattle.bm_pending.proofs.by_block.put_target.Goals as goal

pub returns-in-Some-clause-capacities : goal.returns-in-Some-clause-capacities
returns-in-Some-clause-capacities c q =
    let updates = ((c.get_mut.follows.holds c.put.new.targets).3 (ap is_some (sym c.in-Some.ensures.value))).0 q in
    subst (λ o. capacity_at c.args.blocks.now.entries q ≤ capacity_or o + cond (nat_eq c.args.block q) 1 0) (sym updates)
    (written-capacities c.args.blocks.now.entries c.args.block c.in-Some.targets.now c.put.new.targets 1 c.in-Some.ensures.value
    (put-capacity c.in-Some.targets.now c.put.new.targets c.args.storage c.args.round c.put.ensures.items c.put.ensures.capacity) q)
