-- The snapshot of a state that calls lead to, and faults, in forms that compute: unfolding one of
-- these unfolds all that it needs.
use Rattle.std.specs.Prelude.{ℕ, List, Option}
use Rattle.std.specs.Fmt.{digits}
use Rattle.bm_base.specs.declared.call.Call.{Call}
use Rattle.bm_base.specs.Words.{distinct, without_node, state_at_choice, empty_holdings, without_storages, cluster_checks, missing_blocks, is_old, least_target_by, is_still_stored, begin_drain, knows_storage, Cluster, pending_targets, round_refusal, len, change_holdings, level_of, entries, least_source_by, was_excess, enter, whole_round, are_siblings, end_round, knows_node, excluded_for, set_replication, replaces, is_excluded, wishes, replicas_where, share_rack, first_state, node_number, node_commands, least_target, rack_of, is_too_long, revise, was_bad, is_on_racks, entered_tag, insert, undrain, numbers_in, get, is_multi_rack, drains, without_unordered_excess, alter, has_rack_mate, class_of, deletable_on, new_replicas, add_block, calls_spent, storage_refusal, scheduled_to, streams_from, all_replicas, is_deletable, is_retired, holders_of, refusal_of, is_draining, heartbeat, free_bytes, empty, node_refusal, node_of, racks, storages_where, target_cmp, without_storage, state_after_expiry, least_source, restamp, drain, register, without_pending, has_enough_live, without_expired, excess_in, revise_at, change_marks_of_block, make_bad, standard, remove, remove_replica, keep, keys, expanded, after_event, done, blocks_of_entry, blocks_on, excess_cmp, state_after, level, transfer_for, done_by, delete_block, with_surplus_marked, change_cluster, excess_of, remaining, block_refusal, commands_of, wishes_for, is_named, transfers, is_held_back_by, deletes_of, empty_cluster, source_cmp, has_storage, leaves_by_report, is_commanded, targets_of, knows_block, block_checks, is_target, report, deletes, step, entered_marks}
use Rattle.bm_saved.specs.declared.LoadFault.{LoadFault}
use Rattle.bm_saved.specs.Saved.{SavedNode, SavedBlock, entries_of_block, saved_block, held_numbers, saved_blocks, saved_node, saved_nodes}
use Rattle.bm_saved.specs.Faults.{saved_node_checks, node_fault, saved_block_checks, block_fault}
use Rattle.bm_saved.specs.SavedText.{counts_text, node_text, replica_text, pending_text, block_text, end_text, body_text, text_of_lines, snapshot_text}

-- the snapshot after these calls, from the first state with standard values on
unfoldable pub snapshot_after : List Call → List ℕ
unfolding entries empty get insert alter keep revise revise_at remove len keys distinct empty_cluster empty_holdings
    node_of rack_of has_storage drains is_draining are_siblings storages_where has_enough_live racks is_multi_rack level_of level
    all_replicas replicas_where missing_blocks blocks_on is_held_back_by is_retired
    was_bad was_excess entered_tag entered_marks replaces enter blocks_of_entry expanded numbers_in is_named leaves_by_report report without_pending change_marks_of_block
    add_block delete_block set_replication restamp make_bad remove_replica without_storages begin_drain
    register heartbeat without_node without_storage drain undrain change_cluster change_holdings
    without_expired without_unordered_excess remaining share_rack has_rack_mate excess_cmp excess_of excess_in with_surplus_marked state_after_expiry state_at_choice
    pending_targets wishes_for wishes streams_from scheduled_to free_bytes node_number source_cmp least_source_by least_source
    targets_of holders_of excluded_for is_on_racks class_of target_cmp is_excluded is_target least_target_by least_target transfer_for transfers
    is_deletable deletable_on deletes_of deletes
    node_commands commands_of is_commanded end_round whole_round
    knows_node knows_storage knows_block is_still_stored is_old is_too_long
    cluster_checks block_checks calls_spent refusal_of round_refusal node_refusal storage_refusal block_refusal
    new_replicas done done_by after_event step
    entries_of_block saved_block held_numbers saved_blocks saved_node saved_nodes
    digits counts_text node_text replica_text pending_text block_text end_text body_text text_of_lines snapshot_text
snapshot_after calls = snapshot_text (state_after (first_state standard) calls)

unfoldable pub fault_of_node : Cluster → Option ℕ → SavedNode → Option LoadFault
unfolding entries empty get insert alter len knows_storage saved_node_checks node_fault
fault_of_node C last s = node_fault C last s

unfoldable pub fault_of_block : Cluster → ℕ → Option ℕ → SavedBlock → Option LoadFault
unfolding entries empty get insert alter node_of knows_storage saved_block_checks block_fault
fault_of_block C round last s = block_fault C round last s
