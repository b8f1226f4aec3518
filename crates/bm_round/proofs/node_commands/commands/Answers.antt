use Rattle.std.proofs.Common.{◌≡◌, true, map, filter, sym, subst, ◌∙◌, T}
use Rattle.std.specs.List.{All}
use Rattle.std.specs.Ordering.{nat_cmp}
use Rattle.std.specs.FinMap.{is_sorted}
use Rattle.bm_base.specs.Words.{keys, has_storage, node_commands, has_commands, commands_of}
use Rattle.bm_round.proofs.NodeCommands.{nodes_ascend, each_has_commands, own_transfers, own_deletes}
use Rattle.bm_round.proofs.node_commands.commands.Goals as goal

pub returns-clause-commands : goal.returns-clause-commands
unfolding commands_of
returns-clause-commands c =
    let C = c.args.topology.now.cluster in
    let nodes =
    c.from_vec.ensures ∙ c.in_ok-nodes.ensures
    ∙ (λ i. filter has_commands (map (node_commands C (c.as_slice-transfers.ensures i) (c.as_slice-deletes.ensures i)) (keys C.nodes))) in
    λ i. record { round = c.args.round; nodes = nodes i }

pub returns-clause-ascending : goal.returns-clause-ascending
returns-clause-ascending c =
    subst (λ ks. T (is_sorted nat_cmp (map (λ k. (k.node, k)) ks.nodes))) (sym (returns-clause-commands c)) (nodes_ascend c.args.topology.now.cluster c.args.round c.args.chosen.now.transfers c.args.chosen.now.deletes)

pub returns-clause-some_command : goal.returns-clause-some_command
returns-clause-some_command c =
    subst (λ ks. All (λ k. has_commands k ≡ true) ks.nodes) (sym (returns-clause-commands c)) (each_has_commands c.args.topology.now.cluster c.args.round c.args.chosen.now.transfers c.args.chosen.now.deletes)

pub returns-clause-own_transfers : goal.returns-clause-own_transfers
returns-clause-own_transfers c =
    subst (λ ks. All (λ k. All (λ t. has_storage c.args.topology.now.cluster k.node t.source ≡ true) k.transfers) ks.nodes) (sym (returns-clause-commands c))
    (own_transfers c.args.topology.now.cluster c.args.round c.args.chosen.now.transfers c.args.chosen.now.deletes)

pub returns-clause-own_deletes : goal.returns-clause-own_deletes
returns-clause-own_deletes c =
    subst (λ ks. All (λ k. All (λ d. has_storage c.args.topology.now.cluster k.node d.storage ≡ true) k.deletes) ks.nodes) (sym (returns-clause-commands c))
    (own_deletes c.args.topology.now.cluster c.args.round c.args.chosen.now.transfers c.args.chosen.now.deletes)
