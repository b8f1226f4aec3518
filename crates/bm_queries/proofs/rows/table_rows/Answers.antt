use Rattle.std.proofs.Common.{◌≡◌, ◌++◌, ◌∷◌, [], subst, ◌∙◌}
use Rattle.bm_base.specs.Promises.Versions.{table}
use Rattle.bm_arena.specs.Contents.{Contents}
use Rattle.bm_levels.specs.SlotHoldings.{holdings_with}
use Rattle.bm_queries.proofs.KnownBlocks.{row_in, row_put, all_rows}
use Rattle.bm_queries.proofs.rows.table_rows.Goals as goal

pub loop-id-init : goal.loop-id-init
loop-id-init c pending = c.in_ok-rows.ensures.items

pub loop-id-preserved : goal.loop-id-preserved
loop-id-preserved c pending =
    let a = c.arena-arena.result.now in
    c.in_ok-push.ensures.items
    ∙ (λ i. c.loop-id.invariant pending i ++ (c.loop-id-item.result.0, c.in_ok-places.ensures.places pending i) ∷ [])
    ∙ row_put (row_in a pending) c.deref-id-items.result.now c.loop-id.id-index c.loop-id-item.result c.loop-id-test.true c.loop-id-item.is

pub returns-clause-rows : goal.returns-clause-rows
returns-clause-rows c pending =
    let a = c.arena-arena.result.now in
    let P : Contents → Type 0 = λ x. c.from_vec.result ≡ table (holdings_with x pending) in
    subst P c.arena-arena.ensures
    (c.from_vec.ensures ∙ c.loop-id.invariant pending ∙ all_rows a pending c.loop-id.id-index c.deref-id-items.result.now c.loop-id-test.false (c.deref-id-items.ensures.value ∙ c.in_ok-known.ensures.blocks))
