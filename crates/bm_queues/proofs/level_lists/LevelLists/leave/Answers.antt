use Rattle.std.proofs.Common.{◌≡◌, ◌-◌, ◌∷◌, get_or, None, sym, subst, ap, ◌∙◌, arith}
use Rattle.std.specs.Prelude.{if◌then◌else◌, ◌==◌}
use Rattle.std.specs.List.Sorted.{IsPermutation}
use Rattle.bm_queues.specs.Levels.{level_at, slots_of}
use Rattle.bm_queues.specs.Walks.{slots_from, IsOn}
use Rattle.bm_queues.proofs.LevelLaws.{lawful-levels, left-permutation, left-rest, left-on, level-set}
use Rattle.bm_queues.proofs.CellLaws.{level-here, index-below, last-fits, seen-left, dense-left}
use Rattle.bm_queues.proofs.level_lists.LevelLists.leave.Goals as goal

pub overflow_sub-len : goal.overflow_sub-len
overflow_sub-len c =
    let low = index-below _ _ c.self.invariant.0 c.args.slot (rw (← c.self.view_is) at c.requires) _ c.index-cell.ensures c.in-Some.level (sym c.get.ensures ∙ c.in-Some.is) _ c.number.ensures _ c.index_mut-array.ensures.value in
    omega (arith, low, c.len.ensures)

pub index-last-requires : goal.index-last-requires
index-last-requires c =
    let low = index-below _ _ c.self.invariant.0 c.args.slot (rw (← c.self.view_is) at c.requires) _ c.index-cell.ensures c.in-Some.level (sym c.get.ensures ∙ c.in-Some.is) _ c.number.ensures _ c.index_mut-array.ensures.value in
    omega (arith, low, c.len.ensures)

pub swap_remove-requires : goal.swap_remove-requires
swap_remove-requires c = index-below _ _ c.self.invariant.0 c.args.slot (rw (← c.self.view_is) at c.requires) _ c.index-cell.ensures c.in-Some.level (sym c.get.ensures ∙ c.in-Some.is) _ c.number.ensures _ c.index_mut-array.ensures.value

pub index_mut-requires : goal.index_mut-requires
index_mut-requires c =
    let fits = last-fits _ _ c.self.invariant.0 c.args.slot (rw (← c.self.view_is) at c.requires) _ c.index-cell.ensures c.in-Some.level (sym c.get.ensures ∙ c.in-Some.is) _ c.number.ensures _ c.index_mut-array.ensures.value c.index-last.result.now (c.index-last.ensures ∙ ap (λ i. get_or c.index_mut-array.result.now.items (i - 1) c.index-last.result.now) c.len.ensures) in
    omega (arith, fits, c.self.inside.cells.ok.0)

pub invariant_of-self : goal.invariant_of-self
invariant_of-self c =
    dense-left _ _ c.self.invariant.0 c.args.slot (rw (← c.self.view_is) at c.requires) _ c.index-cell.ensures c.in-Some.level (sym c.get.ensures ∙ c.in-Some.is) _ c.number.ensures _ c.index_mut-array.ensures.value c.index-last.result.now (c.index-last.ensures ∙ ap (λ i. get_or c.index_mut-array.result.now.items (i - 1) c.index-last.result.now) c.len.ensures)
    _ _ _ c.no_level.ensures c.index_mut.ensures.value c.index_mut-in-Some.ensures.value c.swap_remove.new.self c.swap_remove.result c.swap_remove.ensures.value c.swap_remove.ensures.items
    c.self.invariant.1 c.swap_remove.ensures.capacity

pub returns-in-Some-clause-left : goal.returns-in-Some-clause-left
returns-in-Some-clause-left c l was =
    subst (λ v. IsPermutation (slots_of c.args.self.now l) (c.args.slot ∷ slots_of v l)) (sym (seen-left _ _ c.self.invariant.0 c.args.slot (rw (← c.self.view_is) at c.requires) _ c.index-cell.ensures c.in-Some.level (sym c.get.ensures ∙ c.in-Some.is) _ c.number.ensures _ c.index_mut-array.ensures.value c.index-last.result.now (c.index-last.ensures ∙ ap (λ i. get_or c.index_mut-array.result.now.items (i - 1) c.index-last.result.now) c.len.ensures)
    _ _ _ c.no_level.ensures c.index_mut.ensures.value c.index_mut-in-Some.ensures.value c.swap_remove.new.self c.swap_remove.result c.swap_remove.ensures.value c.swap_remove.ensures.items))
    (rw (← c.self.view_is) (left-permutation _ _ _ c.self.invariant.0 c.args.slot c.in-Some.level (level-here _ _ c.self.invariant.0 c.args.slot (rw (← c.self.view_is) at c.requires) _ c.index-cell.ensures ∙ sym c.get.ensures ∙ c.in-Some.is) l (rw (← c.self.view_is) at was)))

pub returns-in-Some-clause-levels : goal.returns-in-Some-clause-levels
returns-in-Some-clause-levels c other =
    subst (λ v. level_at v other ≡ (if other == c.args.slot then None else level_at c.args.self.now other)) (sym (seen-left _ _ c.self.invariant.0 c.args.slot (rw (← c.self.view_is) at c.requires) _ c.index-cell.ensures c.in-Some.level (sym c.get.ensures ∙ c.in-Some.is) _ c.number.ensures _ c.index_mut-array.ensures.value c.index-last.result.now (c.index-last.ensures ∙ ap (λ i. get_or c.index_mut-array.result.now.items (i - 1) c.index-last.result.now) c.len.ensures)
    _ _ _ c.no_level.ensures c.index_mut.ensures.value c.index_mut-in-Some.ensures.value c.swap_remove.new.self c.swap_remove.result c.swap_remove.ensures.value c.swap_remove.ensures.items))
    (rw (← c.self.view_is) (level-set _ c.args.slot None (rw (← c.self.view_is) at c.requires) other))

pub returns-in-Some-clause-rest : goal.returns-in-Some-clause-rest
returns-in-Some-clause-rest c l at past =
    subst (λ v. slots_from (slots_of v l) at ≡ slots_from (slots_of c.args.self.now l) at) (sym (seen-left _ _ c.self.invariant.0 c.args.slot (rw (← c.self.view_is) at c.requires) _ c.index-cell.ensures c.in-Some.level (sym c.get.ensures ∙ c.in-Some.is) _ c.number.ensures _ c.index_mut-array.ensures.value c.index-last.result.now (c.index-last.ensures ∙ ap (λ i. get_or c.index_mut-array.result.now.items (i - 1) c.index-last.result.now) c.len.ensures)
    _ _ _ c.no_level.ensures c.index_mut.ensures.value c.index_mut-in-Some.ensures.value c.swap_remove.new.self c.swap_remove.result c.swap_remove.ensures.value c.swap_remove.ensures.items))
    (rw (← c.self.view_is) (left-rest _ _ _ c.self.invariant.0 c.args.slot c.in-Some.level (level-here _ _ c.self.invariant.0 c.args.slot (rw (← c.self.view_is) at c.requires) _ c.index-cell.ensures ∙ sym c.get.ensures ∙ c.in-Some.is) l at (rw (← c.self.view_is) at past)))

pub returns-in-Some-clause-on : goal.returns-in-Some-clause-on
returns-in-Some-clause-on c l at past on =
    subst (λ v. IsOn at (slots_of v l)) (sym (seen-left _ _ c.self.invariant.0 c.args.slot (rw (← c.self.view_is) at c.requires) _ c.index-cell.ensures c.in-Some.level (sym c.get.ensures ∙ c.in-Some.is) _ c.number.ensures _ c.index_mut-array.ensures.value c.index-last.result.now (c.index-last.ensures ∙ ap (λ i. get_or c.index_mut-array.result.now.items (i - 1) c.index-last.result.now) c.len.ensures)
    _ _ _ c.no_level.ensures c.index_mut.ensures.value c.index_mut-in-Some.ensures.value c.swap_remove.new.self c.swap_remove.result c.swap_remove.ensures.value c.swap_remove.ensures.items))
    (left-on _ _ _ c.self.invariant.0 c.args.slot c.in-Some.level (level-here _ _ c.self.invariant.0 c.args.slot (rw (← c.self.view_is) at c.requires) _ c.index-cell.ensures ∙ sym c.get.ensures ∙ c.in-Some.is) l at (rw (← c.self.view_is) at past) (rw (← c.self.view_is) at on))

pub returns-in-Some-clause-lawful : goal.returns-in-Some-clause-lawful
returns-in-Some-clause-lawful c = lawful-levels _ _ _ (invariant_of-self c).0

pub returns-in_default-clause-lawful : goal.returns-in_default-clause-lawful
returns-in_default-clause-lawful c = rw (← c.self.view_is) (lawful-levels _ _ _ c.self.invariant.0)
