use Rattle.std.proofs.Common.{◌<◌, length, arith, refl, ap, sym, ◌∙◌}
use Rattle.bm_maps.proofs.PutLaws.{put-set_read}
use Rattle.bm_maps.proofs.BinarySearch.{find_read, find_none, find_past, if_found, if_not_found}
use Rattle.bm_maps.proofs.sorted_entries.replace.Goals as goal

pub returns-in-Equal-clause-after : goal.returns-in-Equal-clause-after
returns-in-Equal-clause-after g c =
    let at = c.requires.at in
    let inside : c.args.at < length c.args.entries.now.items = omega (arith, c.args.entries.now.ok.0) in
    let tie = sym c.cmp.ensures ∙ c.in-Equal.is in
    put-set_read g.K.Ord.cmp c.args.key.now c.args.value c.args.entries.now.items c.args.at c.index_mut.result.now c.index.result.now at inside c.index_mut.ensures.value c.index.ensures tie
    ∙ if_found _ _ _ _ (find_read g.K.Ord.cmp g.met.K.Ord.total c.args.key.now c.args.entries.now.items c.args.at c.index.result.now c.index.result.now at inside
    (ap (λ z. g.K.Ord.cmp c.args.key.now z.0) (sym c.index.ensures) ∙ tie))

pub returns-in_default : goal.returns-in_default
returns-in_default g c =
    let at = c.requires.at in
    let none =
    find_none g.K.Ord.cmp g.met.K.Ord.total c.args.key.now c.args.entries.now.items c.args.at c.index.result.now at c.requires.sorted
    (λ lt tie. c.in_default.not-Equal (c.cmp.ensures ∙ ap (λ z. g.K.Ord.cmp c.args.key.now z.0) c.index.ensures ∙ tie)) in
    record { after = if_not_found _ _ _ none; capacity = refl; len = refl }

pub returns-else-at-len-clause-after : goal.returns-else-at-len-clause-after
returns-else-at-len-clause-after g c =
    let at = c.requires.at in
    if_not_found _ _ _
    (find_past g.K.Ord.cmp g.met.K.Ord.total c.args.key.now c.args.entries.now.items c.args.at at c.requires.sorted (omega (arith, c.if-at-len.false, c.args.entries.now.ok.0)))
