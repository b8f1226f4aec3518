use Rattle.std.proofs.Common.{◌++◌, ◌∷◌, [], take, length, subst, sym, ap, ◌∙◌}
use Rattle.std.proofs.lemmas.List.{length-map, take_all, take_more}
use Rattle.bm_base.specs.Words.{keys, node_commands}
use Rattle.bm_round.specs.RoundCommands.{commands_by_node}
use Rattle.bm_round.specs.NodeIndex.{IsLookedUp}
use Rattle.bm_round.proofs.node_commands.commands_by_node.Goals as goal

pub loop-transfer-init : goal.loop-transfer-init
loop-transfer-init c =
    let made = c.in_ok-groups.ensures in
    record { ids = made.ids; nodes = made.nodes; last = made.last }

pub add_transfer-requires : goal.add_transfer-requires
add_transfer-requires c =
    let C = c.args.topology.now.cluster in
    let inv = c.loop-transfer.invariant in
    record {
      ids = inv.ids;
      count = ap length inv.nodes ∙ length-map (keys C.nodes) (node_commands C (take c.loop-transfer.transfer-index c.args.transfers.now) []) ∙ sym (ap length inv.ids);
    }

pub loop-transfer-preserved : goal.loop-transfer-preserved
loop-transfer-preserved c =
    let inv = c.loop-transfer.invariant in
    let C = c.args.topology.now.cluster in
    let before = c.loop-transfer.groups in
    let made = c.add_transfer.ensures in record {
      ids = ap (λ v. v.items) made.ids ∙ inv.ids;
      nodes = c.in_ok-add_transfer.ensures.nodes (take c.loop-transfer.transfer-index c.args.transfers.now) [] inv.nodes ∙ ap (λ ts. commands_by_node C ts []) (sym (take_more c.args.transfers.now c.loop-transfer.transfer-index c.transfer-item.result c.loop-transfer-test.true ∙ ap (λ t. take c.loop-transfer.transfer-index c.args.transfers.now ++ t ∷ []) (sym c.transfer-item.is)));
      last = subst (λ v. IsLookedUp C v.items c.add_transfer.new.self.last) (sym made.ids) (subst (λ v. IsLookedUp C before.ids.items v) (sym made.last) inv.last);
    }

pub loop-delete-init : goal.loop-delete-init
loop-delete-init c =
    let inv = c.loop-transfer.invariant in
    let all = take_all c.loop-transfer.transfer-index c.args.transfers.now c.loop-transfer-test.false in
    record { ids = inv.ids; nodes = inv.nodes ∙ ap (λ ts. commands_by_node c.args.topology.now.cluster ts []) all; last = inv.last }

pub add_delete-requires : goal.add_delete-requires
add_delete-requires c =
    let C = c.args.topology.now.cluster in
    let inv = c.loop-delete.invariant in
    record {
      ids = inv.ids;
      count = ap length inv.nodes ∙ length-map (keys C.nodes) (node_commands C c.args.transfers.now (take c.loop-delete.delete-index c.args.deletes.now)) ∙ sym (ap length inv.ids);
      last = inv.last;
    }

pub loop-delete-preserved : goal.loop-delete-preserved
loop-delete-preserved c =
    let inv = c.loop-delete.invariant in
    let C = c.args.topology.now.cluster in
    let made = c.add_delete.ensures in record {
      ids = ap (λ v. v.items) made.ids ∙ inv.ids;
      nodes = c.in_ok-add_delete.ensures.nodes c.args.transfers.now (take c.loop-delete.delete-index c.args.deletes.now) inv.nodes ∙ ap (λ ds. commands_by_node C c.args.transfers.now ds) (sym (take_more c.args.deletes.now c.loop-delete.delete-index c.delete-item.result c.loop-delete-test.true ∙ ap (λ d. take c.loop-delete.delete-index c.args.deletes.now ++ d ∷ []) (sym c.delete-item.is)));
      last = made.last;
    }

pub returns : goal.returns
returns c = c.loop-delete.invariant.nodes ∙ ap (λ ds. commands_by_node c.args.topology.now.cluster c.args.transfers.now ds) (take_all c.loop-delete.delete-index c.args.deletes.now c.loop-delete-test.false)
