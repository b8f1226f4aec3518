-- Lemmas on rounds and levels, each with the laws whose proofs cite it.
-- A law's own proof is SUBJECT/LAW/Answers, next to src/SUBJECT.rt.
--
-- for level_four_is_no_usable_replica, more_wanted_is_no_less_need,
-- one_drained_replica_more_is_no_more_need, one_replica_more_is_no_more_need,
-- only_drained_is_level_zero, raised_replication_is_no_less_need,
-- short_of_replicas_is_level_zero_one_two_or_four, unknown_block_has_no_level
pub mod Needs
-- for at_most_invalidate_a_node
pub mod NodeGroups
-- for at_most_replication_is_live, corrupt_waits_for_live, drained_before_marking,
-- live_before_marking, marking_makes_none_live, none_is_ordered_again,
-- only_stray_excess_or_corrupt_is_deleted, ordered_excess_stays, other_excess_is_new,
-- round_leaves_enough_live, surplus_is_marked
pub mod DeleteReasons
-- for last_of_rack_stays
pub mod MarkedRacks
-- for the lemmas of TransferLaws, Urgency, RequestedCopies
pub mod ChosenTransfers
-- for at_most_four_from_a_node, at_most_work_times_nodes, sent_fits, source_is_live_or_drained,
-- target_is_on_fresh_node
pub mod TransferLaws
-- for no_more_than_lacks, second_rack
pub mod RequestedCopies
-- for no_delete_twice, no_transfer_twice
pub mod NextRounds
-- for good_replica_is_left_by_all_rounds, ordered_replica_is_not_usable
pub mod OrderedDeletes
-- for most_urgent_first
pub mod Urgency
-- for chosen_transfer_is_commanded, commanded_delete_is_ordered, commanded_transfer_is_pending,
-- each_node_its_own, first_two_of_a_node, ordered_is_commanded, round_keeps_the_rest
pub mod NodeCommands
-- for ordered_is_commanded
pub mod TestedDeletes
-- for only_the_limit_defers
pub mod DeferredDeletes
-- for level_three_is_one_rack
pub mod OneRack
-- for drained_is_distinct, live_is_distinct, sources_are_usable, usable_is_live_or_drained
pub mod UsableReplicas
-- for drained_replica_is_not_deleted, drained_source_goes_first, drained_stay_drained,
-- no_draining_node_is_a_target, none_on_a_draining_node_is_marked
pub mod DrainingNodes
-- for live_stays_live
pub mod DuringObedience
-- for the lemmas of LiveCounts, LiveTargets
pub mod DistinctTargets
-- for target_becomes_live
pub mod LiveTargets
-- for each_copy_is_gained, listed_order_obeys_all
pub mod LiveCounts
-- for obedience_is_not_refused
pub mod AcceptedNotices

-- These laws cite only proofs of laws_of_states: LiveReplicas
-- (drained_is_good_not_in_excess_and_draining, live_is_good_not_in_excess_and_not_draining),
-- AfterRound (round_changes_no_tag), LiveAfterRound and CommandedDeletes
-- (live_replica_is_not_deleted, enough_stay_live, last_good_replica_stays), LastGood and
-- CommandedDeletes (only_good_replica_is_not_deleted).
