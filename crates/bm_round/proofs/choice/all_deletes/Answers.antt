use Rattle.std.proofs.Common.{◌++◌, flat_map, ap, ◌∙◌}
use Rattle.std.proofs.lemmas.List.{take_all}
use Rattle.bm_base.specs.declared.commands.NodeCommands.{NodeCommands}
use Rattle.bm_round.proofs.GatheredLists.{gathered_next}
use Rattle.bm_round.proofs.choice.all_deletes.Goals as goal

pub loop-commands-init : goal.loop-commands-init
loop-commands-init c = c.new-all.ensures.items

pub loop-commands-preserved : goal.loop-commands-preserved
loop-commands-preserved c =
    let before = c.loop-commands in
    c.in_ok-extend_from_slice.ensures.items ∙ ap (λ l. before.all.items ++ l) c.as_slice.ensures ∙ ap (λ l. l ++ c.commands-item.result.deletes) before.invariant
    ∙ gathered_next (λ (k : NodeCommands). k.deletes) c.args.groups.now before.commands-index c.commands-item.result c.loop-commands-test.true c.commands-item.is

pub returns : goal.returns
returns c = c.loop-commands.invariant ∙ ap (flat_map (λ (k : NodeCommands). k.deletes)) (take_all c.loop-commands.commands-index c.args.groups.now c.loop-commands-test.false)
