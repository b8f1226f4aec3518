use Rattle.std.proofs.Common.{rules, arith, ◌≡◌, ◌<◌, refl, sym, subst, length, vec_len}
use Rattle.bm_crew.proofs.Zips.{take_one, none_left}
use Rattle.bm_crew.proofs.FilledSlots.{slots_push}
use Rattle.bm_crew.proofs.AppendedLists.{all_next}
use Rattle.bm_crew.proofs.slots.store_results.Goals as goal

pub loop-index-preserved-in-Some : goal.loop-index-preserved-in-Some
loop-index-preserved-in-Some g c = let inv = c.loop-index.invariant in (take_one _ _ _ _ _ inv.0 c.in-Some.ensures.steps.0, rw inv.1 (sym (slots_push c.args.slots.now.items c.loop-index.yielded (c.in-Some.index, c.in-Some.result))), search rules)

pub loop-index-preserved : goal.loop-index-preserved
loop-index-preserved g c = let inv = c.loop-index.invariant in (take_one _ _ _ _ _ inv.0 c.in-Some.ensures.steps.0, rw inv.1 (sym (slots_push c.args.slots.now.items c.loop-index.yielded (c.in-Some.index, c.in-Some.result))), search rules)

pub loop-index-init : goal.loop-index-init
loop-index-init g c = (sym c.into_iter-index-iterator.ensures.into_iter_gives.0, refl, refl)

pub next-requires : goal.next-requires
next-requires g c = tt

pub index_mut-requires : goal.index_mut-requires
index_mut-requires g c =
    let inv = c.loop-index.invariant in
    subst (λ n. c.in-Some.index < n) (sym inv.2) (all_next (λ m. m.0 < vec_len c.args.slots.now) _ _ _ _ (c.in-Some.index, c.in-Some.result) inv.0 c.in-Some.ensures.steps.0 c.requires)

pub loop-index-smaller-in-Some : goal.loop-index-smaller-in-Some
loop-index-smaller-in-Some g c = (c.in-Some.ensures.goes.on tt).2

pub loop-index-smaller : goal.loop-index-smaller
loop-index-smaller g c = (c.in-Some.ensures.goes.on tt).2

pub returns : goal.returns
returns g c =
    let inv = c.loop-index.invariant in
    let none : length c.loop-index.index-iterator.rest.items ≡ 0 = omega (arith, c.in-None.ensures.steps.0, c.loop-index.index-iterator.rest.ok) in
    let whole : c.args.made.items ≡ c.loop-index.yielded = none_left _ _ _ inv.0 none in
    record { items = rw whole inv.1; len = inv.2 }
