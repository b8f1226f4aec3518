use Rattle.std.proofs.Common.{◌++◌, [], ◌∷◌, ap, sym, ◌∙◌, arith}
use Rattle.bm_base.specs.Maps.Map.{keys}
use Rattle.cluster_report.proofs.TakenKeys.{take_keys}
use Rattle.bm_base.proofs.Slices.{take_next}
use Rattle.cluster_report.proofs.nodes.all_nodes.Goals as goal

pub loop-place-preserved : goal.loop-place-preserved
loop-place-preserved c =
    let all = keys c.args.topology.now.cluster.nodes in
    c.in_ok-push.ensures.items
    ∙ ap (λ xs. xs ++ c.in-Some.node ∷ []) c.loop-place.invariant
    ∙ sym (take_next all c.loop-place.place c.in-Some.node (sym c.node_at.ensures ∙ c.in-Some.is))

pub returns : goal.returns
returns c =
    c.loop-place.invariant
    ∙ take_keys c.args.topology.now.cluster.nodes c.loop-place.place (omega (arith, c.alive_nodes-place-end.ensures.count, c.loop-place-test.false))
