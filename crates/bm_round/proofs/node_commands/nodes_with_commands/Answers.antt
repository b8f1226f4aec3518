use Rattle.std.proofs.Common.{filter, ap, sym, ◌∙◌, rules}
use Rattle.std.proofs.lemmas.Fn.{filter_same}
use Rattle.bm_base.specs.Machine.Rounds.{has_commands}
use Rattle.bm_round.proofs.EmptyChoice.{none_there, none_commanded}
use Rattle.bm_round.proofs.node_commands.nodes_with_commands.Goals as goal

pub returns-then-is_empty-2 : goal.returns-then-is_empty-2
returns-then-is_empty-2 c =
    c.new.ensures.items
    ∙ none_commanded c.args.topology.now.cluster c.args.transfers.now c.args.deletes.now (none_there c.args.transfers.now (sym c.is_empty.ensures ∙ c.if-is_empty.true))
    (none_there c.args.deletes.now (sym c.is_empty-then-is_empty.ensures ∙ c.if-is_empty-2.true))

pub returns : goal.returns
returns c = filter_same _ has_commands _ (λ x b f' k. search rules) _ _ c.retain.ensures.filtered ∙ ap (filter has_commands) c.in_ok-nodes.ensures
