use Rattle.std.proofs.Common.{◌++◌, flat_map, ap, ◌∙◌}
use Rattle.std.proofs.lemmas.List.{take_all}
use Rattle.bm_base.specs.declared.round.RoundPart.{RoundPart}
use Rattle.bm_round.proofs.GatheredLists.{gathered_next}
use Rattle.bm_round.proofs.merge.gather_deletes.Goals as goal

pub loop-part-init : goal.loop-part-init
loop-part-init c = c.new-all.ensures.items

pub loop-part-preserved : goal.loop-part-preserved
loop-part-preserved c =
    let before = c.loop-part in
    c.in_ok-extend_from_slice.ensures.items ∙ ap (λ l. before.all.items ++ l) c.as_slice.ensures ∙ ap (λ l. l ++ c.part-item.result.deletes) before.invariant
    ∙ gathered_next (λ (p : RoundPart). p.deletes) c.args.parts.now before.part-index c.part-item.result c.loop-part-test.true c.part-item.is

pub returns : goal.returns
returns c = c.loop-part.invariant ∙ ap (flat_map (λ (p : RoundPart). p.deletes)) (take_all c.loop-part.part-index c.args.parts.now c.loop-part-test.false)
