use Rattle.std.proofs.Common.{[], ◌∷◌, ◌++◌, take, length, ap, sym, ◌∙◌}
use Rattle.std.proofs.lemmas.List.{length-map, take_all, take_more}
use Rattle.bm_base.specs.Maps.Map.{keys}
use Rattle.bm_round.specs.RoundCommands.{first_commands, first_by_node}
use Rattle.bm_round.proofs.FirstDeletes.{first_of_none}
use Rattle.bm_round.proofs.choice.first_by_node.Goals as goal

pub loop-delete-init : goal.loop-delete-init
loop-delete-init c =
    let C = c.args.topology.now.cluster in
    record {
      ids = c.in_ok-groups.ensures.ids;
      nodes = c.in_ok-groups.ensures.nodes ∙ first_of_none c.args.most C (keys C.nodes);
      last = c.in_ok-groups.ensures.last;
    }

pub add_first_delete-requires : goal.add_first_delete-requires
add_first_delete-requires c =
    let C = c.args.topology.now.cluster in
    let inv = c.loop-delete.invariant in
    record {
      ids = inv.ids;
      count = ap length inv.nodes ∙ length-map (keys C.nodes) (first_commands c.args.most C (take c.loop-delete.delete-index c.args.deletes.now)) ∙ sym (ap length inv.ids);
      last = inv.last;
    }

pub loop-delete-preserved : goal.loop-delete-preserved
loop-delete-preserved c =
    let C = c.args.topology.now.cluster in
    let inv = c.loop-delete.invariant in
    let made = c.add_first_delete.ensures in
    let before = take c.loop-delete.delete-index c.args.deletes.now in
    let next = take_more c.args.deletes.now c.loop-delete.delete-index c.delete-item.result c.loop-delete-test.true ∙ ap (λ d. before ++ d ∷ []) (sym c.delete-item.is) in
    record {
      ids = ap (λ v. v.items) made.ids ∙ inv.ids;
      nodes = c.in_ok-add_first_delete.ensures.nodes before inv.nodes ∙ ap (λ ds. first_by_node c.args.most C ds) (sym next);
      last = made.last;
    }

pub returns : goal.returns
returns c = c.loop-delete.invariant.nodes ∙ ap (λ ds. first_by_node c.args.most c.args.topology.now.cluster ds) (take_all c.loop-delete.delete-index c.args.deletes.now c.loop-delete-test.false)
