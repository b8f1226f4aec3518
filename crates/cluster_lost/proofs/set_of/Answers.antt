use Rattle.std.proofs.Common.{true, is_some, ap, sym, ◌∙◌}
use Rattle.bm_base.specs.Maps.Map.{by_number, get, insert, contains_key}
use Rattle.bm_base.proofs.MapLaws.{get-empty}
use Rattle.cluster_lost.proofs.LostBlocks.{one_more}
use Rattle.cluster_lost.proofs.set_of.Goals as goal

pub loop-block-init : goal.loop-block-init
loop-block-init c = λ b. ap (λ m. contains_key m b) c.new-set.ensures.empty ∙ ap is_some (get-empty by_number b)

pub loop-block-preserved : goal.loop-block-preserved
loop-block-preserved c =
    let x = c.block-item.result in
    λ b. ap (λ m. contains_key m b) (c.in_ok-insert.ensures.ok ∙ ap (λ k. insert c.loop-block.set.map k true) c.number_of.ensures)
    ∙ one_more c.loop-block.set.map c.args.blocks.now c.loop-block.block-index x c.loop-block.invariant c.loop-block-test.true (sym c.block-item.is) b
