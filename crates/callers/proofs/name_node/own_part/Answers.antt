use Rattle.std.proofs.Common.{◌≡◌, ◌==◌, false, All, arith, subst, take_all, rules}
use Rattle.std.proofs.lemmas.List.Elements.{All-more}
use Rattle.bm_base.specs.declared.commands.NodeCommands.{NodeCommands}
use Rattle.callers.proofs.name_node.own_part.Goals as goal

pub loop-commands-preserved : goal.loop-commands-preserved
loop-commands-preserved c =
    let differs : (c.commands-item.result.node == c.args.node) ≡ false = search rules in
    All-more (λ (k : NodeCommands). (k.node == c.args.node) ≡ false) c.args.nodes.now c.loop-commands.commands-index _ (omega arith) c.loop-commands.invariant
    (subst (λ (k : NodeCommands). (k.node == c.args.node) ≡ false) c.commands-item.is differs)

pub returns-clause-nothing : goal.returns-clause-nothing
returns-clause-nothing c =
    subst (All (λ (k : NodeCommands). (k.node == c.args.node) ≡ false)) (take_all c.loop-commands.commands-index c.args.nodes.now (omega arith)) c.loop-commands.invariant
