use Rattle.std.proofs.Common.{ap, ◌∙◌}
use Rattle.bm_base.specs.Machine.State.{limits_of}
use Rattle.bm_base.specs.Choices.{first_of_each_node, chosen_deletes}
use Rattle.bm_round.proofs.KeyedLists.{deletes_alone_are}
use Rattle.bm_round.proofs.choice.choose_deletes.Goals as goal

pub returns-then-parts-eq1-clause-deletes : goal.returns-then-parts-eq1-clause-deletes
unfolding chosen_deletes
returns-then-parts-eq1-clause-deletes c =
    let in_order = deletes_alone_are c.args.parts.now c.index-parts-0.result c.if-parts-eq1.true c.requires.deletes in
    c.in_ok-first_of_each_node.ensures
    ∙ ap (first_of_each_node (limits_of c.args.config.now) c.args.topology.now.cluster) (c.as_slice-deletes.ensures ∙ in_order)
