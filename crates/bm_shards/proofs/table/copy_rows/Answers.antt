use Rattle.std.proofs.Common.{[], ◌∷◌, ◌++◌, flat_map, take, ap, sym, ◌∙◌}
use Rattle.std.proofs.lemmas.List.{flat_map_more, take_all, take_more}
use Rattle.bm_shards.proofs.table.copy_rows.Goals as goal

pub loop-rows-preserved : goal.loop-rows-preserved
loop-rows-preserved c =
    let tables = c.args.tables.now in
    let i = c.loop-rows.rows-index in
    let rows = c.rows-item.result in
    c.in_ok-extend_from_slice.ensures.items
    ∙ ap (λ l. c.loop-rows.all.items ++ l) c.as_slice.ensures
    ∙ ap (λ l. l ++ rows) c.loop-rows.invariant
    ∙ flat_map_more (λ t. t) [] (take i tables) rows
    ∙ ap (λ t. flat_map (λ u. u) (take i tables ++ t ∷ [])) c.rows-item.is
    ∙ sym (ap (flat_map (λ t. t)) (take_more tables i rows c.loop-rows-test.true))

pub returns : goal.returns
returns c = c.loop-rows.invariant ∙ ap (flat_map (λ t. t)) (take_all c.loop-rows.rows-index c.args.tables.now c.loop-rows-test.false)
