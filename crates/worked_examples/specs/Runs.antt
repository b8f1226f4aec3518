-- The answers to a list of calls, in a form that computes: unfolding `run_of` unfolds the whole
-- state machine.
use Rattle.std.specs.Prelude.{List}
use Rattle.bm_base.specs.declared.config.Config.{Config}
use Rattle.bm_base.specs.declared.limits.Limits.{Limits}
use Rattle.bm_base.specs.declared.call.Call.{Call}
use Rattle.bm_base.specs.declared.call.Answer.{Answer}
use Rattle.bm_base.specs.Words.{entries, empty, get, insert, alter, keep, revise, revise_at, remove, len, keys, distinct, first_state_within, empty_cluster, empty_holdings, node_of, rack_of, has_storage, drains, is_draining, are_siblings, storages_where, has_enough_live, racks, is_multi_rack, level_of, level, all_replicas, replicas_where, missing_blocks, blocks_on, is_held_back_by, is_retired, blocks_of_entry, expanded, numbers_in, was_bad, was_excess, entered_tag, entered_marks, replaces, enter, is_named, leaves_by_report, report, without_pending, change_marks_of_block, add_block, delete_block, set_replication, restamp, make_bad, remove_replica, without_storages, begin_drain, register, heartbeat, without_node, without_storage, drain, undrain, change_cluster, change_holdings, without_expired, without_unordered_excess, remaining, share_rack, has_rack_mate, excess_cmp, excess_of, excess_in, with_surplus_marked, state_after_expiry, state_at_choice, pending_targets, wishes_for, wishes, streams_from, scheduled_to, free_bytes, node_number, source_cmp, least_source_by, least_source, targets_of, holders_of, excluded_for, is_on_racks, class_of, target_cmp, is_excluded, is_target, least_target_by, least_target, transfer_for, transfers, is_deletable, deletable_on, deletes_of, deletes, node_commands, commands_of, is_commanded, end_round, whole_round, knows_node, knows_storage, knows_block, is_still_stored, is_old, is_too_long, cluster_checks, block_checks, calls_spent, refusal_of, round_refusal, node_refusal, storage_refusal, block_refusal, new_replicas, done, done_by, after_event, step, answers}

-- what the calls answer, one after another, from the first state of a configuration within these
-- limits
unfoldable pub run_of : Limits → Config → List Call → List Answer
unfolding entries empty get insert alter keep revise revise_at remove len keys distinct empty_cluster empty_holdings
    node_of rack_of has_storage drains is_draining are_siblings storages_where has_enough_live racks is_multi_rack level_of level
    all_replicas replicas_where missing_blocks blocks_on is_held_back_by is_retired
    was_bad was_excess entered_tag entered_marks replaces enter blocks_of_entry expanded numbers_in is_named leaves_by_report report without_pending change_marks_of_block
    add_block delete_block set_replication restamp make_bad remove_replica without_storages begin_drain
    register heartbeat without_node without_storage drain undrain change_cluster change_holdings
    without_expired without_unordered_excess remaining share_rack has_rack_mate excess_cmp excess_of excess_in with_surplus_marked state_after_expiry state_at_choice
    pending_targets wishes_for wishes streams_from scheduled_to free_bytes node_number source_cmp least_source_by least_source
    targets_of holders_of excluded_for is_on_racks class_of target_cmp is_excluded is_target least_target_by least_target transfer_for transfers
    is_deletable deletable_on deletes_of deletes
    node_commands commands_of is_commanded end_round whole_round
    knows_node knows_storage knows_block is_still_stored is_old is_too_long
    cluster_checks block_checks calls_spent refusal_of round_refusal node_refusal storage_refusal block_refusal
    new_replicas done done_by after_event step
run_of limits config calls = answers (first_state_within limits config) calls
