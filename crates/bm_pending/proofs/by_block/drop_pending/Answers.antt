use Rattle.std.proofs.Common.{◌≤◌, ℕ, not, filter, is_some, refl, ap, sym, subst, ◌∙◌, nat_eq}
use Rattle.std.specs.Prelude.{◌==◌}
use Rattle.std.specs.Map.{lookup, keys_of}
use Rattle.bm_pending.specs.Inside.{capacity_at}
use Rattle.bm_pending.proofs.Blocks.{items_or, capacity_or, freed-capacities, filtered-capacity, absent-targets}
use Rattle.bm_pending.proofs.by_block.drop_pending.Goals as goal

pub returns-in-Some-clause-capacities : goal.returns-in-Some-clause-capacities
returns-in-Some-clause-capacities c q =
    let updates = ((c.get_mut.follows.holds c.drop_target.new.targets).3 (ap is_some (sym c.in-Some.ensures.value))).0 q in
    subst (λ o. capacity_at c.args.blocks.now.entries q ≤ capacity_or o) (sym updates)
    (freed-capacities c.args.blocks.now.entries c.args.block c.in-Some.targets.now c.drop_target.new.targets c.in-Some.ensures.value
    (filtered-capacity c.in-Some.targets.now c.drop_target.new.targets _ c.drop_target.ensures.items c.drop_target.ensures.capacity) q)

pub returns-in_default-clause-targets : goal.returns-in_default-clause-targets
returns-in_default-clause-targets c q =
    ap (λ m. items_or (lookup (nat_eq q) m.entries)) c.get_mut.follows.holds-at-none
    ∙ absent-targets c.args.blocks.now.entries c.args.block (filter {X = ℕ × ℕ} (λ t. not (t.0 == c.args.storage))) refl (sym c.in_default.ensures.value) q

pub returns-in-Some-clause-keys : goal.returns-in-Some-clause-keys
returns-in-Some-clause-keys c = (c.get_mut.follows.holds c.drop_target.new.targets).1

pub returns-in_default-clause-keys : goal.returns-in_default-clause-keys
returns-in_default-clause-keys c = ap (λ m. keys_of m.entries) c.get_mut.follows.holds-at-none
