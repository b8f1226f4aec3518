use Rattle.std.proofs.Common.{flat_map, ap, sym, ◌∙◌}
use Rattle.std.proofs.lemmas.Result.{IfOk-weaker}
use Rattle.bm_base.specs.declared.commands.NodeCommands.{NodeCommands}
use Rattle.bm_base.specs.Machine.State.{limits_of}
use Rattle.bm_round.proofs.FirstDeletes.{firsts_are}
use Rattle.bm_round.proofs.EmptyChoice.{none_there, none_first}
use Rattle.bm_round.proofs.choice.first_of_each_node.Goals as goal

pub returns : goal.returns
returns c =
    let C = c.args.topology.now.cluster in
    let groups = c.as_slice.ensures.value ∙ c.in_ok-groups.ensures in
    IfOk-weaker c.all_deletes.result _ _
    (λ v e. e ∙ ap (flat_map (λ (k : NodeCommands). k.deletes)) groups ∙ firsts_are (limits_of c.args.config.now) C c.args.deletes.now)
    c.all_deletes.ensures

pub returns-then-is_empty : goal.returns-then-is_empty
returns-then-is_empty c = c.new.ensures.items ∙ none_first (limits_of c.args.config.now) c.args.topology.now.cluster c.args.deletes.now (none_there c.args.deletes.now (sym c.is_empty.ensures ∙ c.if-is_empty.true))
