-- Lemmas on events, queries and whole runs, each with the laws whose proofs cite it.
-- A law's own proof is SUBJECT/LAW/Answers, next to src/SUBJECT.rt.
--
-- for answered_calls_lead_to_lawful, answered_calls_lead_to_orderly, call_keeps_lawful,
-- calls_lead_to_lawful, refusal_leaves_state
pub mod LawfulStates
-- for the lemmas of ListedReplicas, ReportLaws
pub mod ReportedMarks
-- for the lemmas of PendingTargets, BlockChanges, ReportLaws, RunLaws
pub mod ReportedReplicas
-- for last_entry_decides, received_is_there, received_leaves_bad_bad, received_leaves_other_nodes,
-- report_leaves_bad_bad, report_leaves_other_nodes, full_report_is_exact,
-- second_report_changes_nothing
pub mod ReportLaws
-- for report_in_parts
pub mod ReportParts
-- for dead_node_leaves, failed_storage_leaves, heartbeat_leaves_others, last_heartbeat_counts,
-- registered_node_is_there
pub mod NodeChanges
-- for added_block_is_known, corrupt_replica_is_bad, deleted_block_is_stray,
-- deleted_replica_is_gone, event_leaves_other_blocks, received_ends_transfer, replication_is_set,
-- report_ends_transfers, report_leaves_unnamed_blocks, restamped_block_has_no_good_replica
pub mod BlockChanges
-- for counts_add_up
pub mod EventCounts
-- for bad_replica_stays_bad
pub mod BadStays
-- for report_is_what_is_asked
pub mod BlocksAfterReport
-- for call_leaves_cluster_limits, event_is_counted, query_leaves_state, round_is_counted
pub mod StatesAfterCalls
-- for transfers_are_still_to_come
pub mod PendingTargets
-- for calls_lead_to_sound
pub mod PlainStates
-- for blocks_on_are_held, corrupt_are_stale_or_bad, excess_are_marked,
-- missing_have_no_usable_replica, places_are_good, replicas_are_held
pub mod ListedReplicas
-- for lists_ascend
pub mod AscendingLists
-- for other_answer_is_the_steps, refused_answer_leaves_state
pub mod LimitedMemory
-- for backward_run_names_none, numbers_are_counted, run_may_be_cut, runs_are_alike_one_by_one,
-- runs_name_their_numbers, same_blocks_are_alike, last_stamp_counts
pub mod RunLaws
-- for dead_node_does_not_drain, drain_takes_transfers, idle_undrain_changes_nothing,
-- node_begins_to_drain, node_ceases_to_drain, other_events_leave_draining,
-- registered_node_does_not_drain, second_drain_changes_nothing, undrain_takes_nothing
pub mod DrainLaws
-- for retired_is_said_plainly, retired_node_may_die
pub mod RetiredNodes
-- for no_transfer_to_draining
pub mod NoTransferToDraining

-- These laws cite only proofs of other crates. Of laws_of_states: OrderlyStates
-- (calls_lead_to_orderly), AcceptedEvents (event_keeps_lawful), FirstState (first_state_is_lawful)
-- and LawfulRounds (round_keeps_lawful).
-- Of bm_parts: Parts (cut_gives_parts, event_changes_one_part, every_number_has_its_shard,
-- parts_change_by_themselves, parts_give_back_whole) and PartSums (parts_answers_add_up).
