use Rattle.std.proofs.Common.{◌≡◌, ◌∷◌, Some, sym, subst, arith}
use Rattle.std.specs.Prelude.{if◌then◌else◌, ◌==◌}
use Rattle.bm_queues.specs.Levels.{level_at, slots_of}
use Rattle.bm_queues.proofs.LevelLaws.{lawful-levels, more-front, more-others, level-set}
use Rattle.bm_queues.proofs.CellLaws.{number-below, one-fits, seen-more, dense-more}
use Rattle.bm_queues.proofs.OneArray.{capacity-at}
use Rattle.bm_queues.proofs.level_lists.LevelLists.enter.Goals as goal

pub overflow_cast-len : goal.overflow_cast-len
overflow_cast-len c =
    let few = one-fits _ _ c.self.invariant.0 c.args.slot (rw (← c.self.view_is) at c.requires.inside) (rw (← c.self.view_is) at c.requires.absent) c.args.level _ c.number.ensures _ c.index_mut-array.ensures.value in
    let small = c.self.invariant.0.small in
    record { fits = omega (arith, few, small, c.len.ensures) }

pub push_reserved-requires : goal.push_reserved-requires
push_reserved-requires c =
    let few = one-fits _ _ c.self.invariant.0 c.args.slot (rw (← c.self.view_is) at c.requires.inside) (rw (← c.self.view_is) at c.requires.absent) c.args.level _ c.number.ensures _ c.index_mut-array.ensures.value in
    let capacity = capacity-at c.self.inside.arrays.items c.number.result c.index_mut-array.result.now (number-below _ c.self.invariant.0.five c.args.level c.number.result c.number.ensures) c.index_mut-array.ensures.value _ c.self.invariant.1 in
    omega (arith, few, capacity)

pub invariant_of-self : goal.invariant_of-self
invariant_of-self c =
    dense-more _ _ c.self.invariant.0 c.args.slot (rw (← c.self.view_is) at c.requires.inside) (rw (← c.self.view_is) at c.requires.absent) c.args.level _ c.number.ensures _ c.index_mut-array.ensures.value
    c.of.result c.of.ensures c.push_reserved.new.self c.push_reserved.ensures.items c.len.result c.len.ensures
    c.self.invariant.1 c.push_reserved.ensures.capacity

pub returns-clause-front : goal.returns-clause-front
returns-clause-front c =
    subst (λ v. slots_of v c.args.level ≡ c.args.slot ∷ slots_of c.args.self.now c.args.level) (sym (seen-more _ _ c.self.invariant.0 c.args.slot (rw (← c.self.view_is) at c.requires.inside) (rw (← c.self.view_is) at c.requires.absent) c.args.level _ c.number.ensures _ c.index_mut-array.ensures.value
    c.of.result c.of.ensures c.push_reserved.new.self c.push_reserved.ensures.items c.len.result c.len.ensures))
    (rw (← c.self.view_is) (more-front _ _ _ c.self.invariant.0 c.args.slot c.args.level (rw (← c.self.view_is) at c.requires.absent) (rw (← c.self.view_is) at c.requires.inside)))

pub returns-clause-levels : goal.returns-clause-levels
returns-clause-levels c other =
    subst (λ v. level_at v other ≡ (if other == c.args.slot then Some c.args.level else level_at c.args.self.now other)) (sym (seen-more _ _ c.self.invariant.0 c.args.slot (rw (← c.self.view_is) at c.requires.inside) (rw (← c.self.view_is) at c.requires.absent) c.args.level _ c.number.ensures _ c.index_mut-array.ensures.value
    c.of.result c.of.ensures c.push_reserved.new.self c.push_reserved.ensures.items c.len.result c.len.ensures))
    (rw (← c.self.view_is) (level-set _ c.args.slot (Some c.args.level) (rw (← c.self.view_is) at c.requires.inside) other))

pub returns-clause-others : goal.returns-clause-others
returns-clause-others c l differs =
    subst (λ v. slots_of v l ≡ slots_of c.args.self.now l) (sym (seen-more _ _ c.self.invariant.0 c.args.slot (rw (← c.self.view_is) at c.requires.inside) (rw (← c.self.view_is) at c.requires.absent) c.args.level _ c.number.ensures _ c.index_mut-array.ensures.value
    c.of.result c.of.ensures c.push_reserved.new.self c.push_reserved.ensures.items c.len.result c.len.ensures))
    (rw (← c.self.view_is) (more-others _ _ _ c.self.invariant.0 c.args.slot c.args.level (rw (← c.self.view_is) at c.requires.absent) (rw (← c.self.view_is) at c.requires.inside) l differs))

pub returns-clause-lawful : goal.returns-clause-lawful
returns-clause-lawful c = lawful-levels _ _ _ (invariant_of-self c).0
