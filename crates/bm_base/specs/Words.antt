-- The definitions that most files import: maps, the state, replicas, events, rounds and calls, and
-- those of the standard library that its own Prelude does not pass on.
pub use Rattle.std.specs.Arc.{arc_value}
pub use Rattle.std.specs.Io.KnownBytes.{Appends}
pub use Rattle.std.specs.Iterator.{YieldsFirst, item_count}
pub use Rattle.std.specs.List.{AllZip, list_any, position_or_len}
unfoldable pub use Rattle.std.specs.List.{IsDistinct}
pub use Rattle.std.specs.List.Sorted.{IsNonDecreasing, IsNonDecreasingBy, IsPermutation, IsSorted, IsSortedByKey}
pub use Rattle.std.specs.Map.{keys_of, lookup}
pub use Rattle.std.specs.Option.{option_map_or}
pub use Rattle.std.specs.Ordering.{nat_cmp}
pub use Rattle.bm_base.specs.Maps.Map.{Map, Order, Set, by_number, contains_key, insert_all, values}
unfoldable pub use Rattle.bm_base.specs.Maps.Map.{alter, empty, entries, get, insert, keep, keys, len, remove, revise, revise_at}
pub use Rattle.bm_base.specs.Maps.Lists.{has, has_repeats, has_some, least, ◌if_equal◌}
unfoldable pub use Rattle.bm_base.specs.Maps.Lists.{distinct}
pub use Rattle.bm_base.specs.Machine.State.{Cluster, Holdings, RoundLimits, State, by_replica, first_state, first_state_within, limits_of, replica_at, replica_cmp, standard_limits}
unfoldable pub use Rattle.bm_base.specs.Machine.State.{empty_cluster, empty_holdings}
pub use Rattle.bm_base.specs.Machine.Replicas.{drained, is_bad, is_corrupt, is_drained_on, is_good, is_live_on, is_stale, is_stray, is_usable, live, sources_of, usable}
unfoldable pub use Rattle.bm_base.specs.Machine.Replicas.{are_siblings, drains, has_enough_live, has_storage, is_draining, is_multi_rack, node_of, rack_of, racks, remaining, share_rack, storages_where}
pub use Rattle.bm_base.specs.Machine.Levels.{BlockCounts, counts_of, is_at, level_number, level_without_live}
unfoldable pub use Rattle.bm_base.specs.Machine.Levels.{level, level_of}
pub use Rattle.bm_base.specs.Machine.Entries.{ReportedBlock, range_from, run_length}
unfoldable pub use Rattle.bm_base.specs.Machine.Entries.{blocks_of_entry, expanded, numbers_in}
pub use Rattle.bm_base.specs.Machine.Events.{as_bad, as_restamped, as_stray, change, same_stamp, set_remaining}
unfoldable pub use Rattle.bm_base.specs.Machine.Events.{add_block, begin_drain, change_cluster, change_holdings, change_marks_of_block, delete_block, drain, enter, entered_marks, entered_tag, heartbeat, is_named, leaves_by_report, make_bad, register, remove_replica, replaces, report, restamp, set_replication, undrain, was_bad, was_excess, without_node, without_pending, without_storage, without_storages}
pub use Rattle.bm_base.specs.Machine.Queries.{corrupt_replicas, excess_replicas, places}
unfoldable pub use Rattle.bm_base.specs.Machine.Queries.{all_replicas, blocks_on, is_held_back_by, is_retired, missing_blocks, replicas_where}
pub use Rattle.bm_base.specs.Machine.RoundStart.{excess_among, is_expired, mark_if_surplus, rank_if, with_excess_reset}
unfoldable pub use Rattle.bm_base.specs.Machine.RoundStart.{excess_cmp, excess_in, excess_of, has_rack_mate, state_after_expiry, state_at_choice, with_surplus_marked, without_expired, without_unordered_excess}
pub use Rattle.bm_base.specs.Machine.Transfers.{RequestedCopy, TargetRequest, requested_count, stream_limit, transfers_from}
unfoldable pub use Rattle.bm_base.specs.Machine.Transfers.{class_of, excluded_for, free_bytes, holders_of, is_excluded, is_on_racks, is_target, least_source, least_source_by, least_target, least_target_by, node_number, pending_targets, scheduled_to, source_cmp, streams_from, target_cmp, targets_of, transfer_for, transfers, wishes, wishes_for}
unfoldable pub use Rattle.bm_base.specs.Machine.Deletes.{deletable_on, deletes, deletes_of, is_deletable}
pub use Rattle.bm_base.specs.Machine.Rounds.{has_commands}
unfoldable pub use Rattle.bm_base.specs.Machine.Rounds.{commands_of, end_round, is_commanded, node_commands, whole_round}
pub use Rattle.bm_base.specs.Machine.Refusals.{first_of, is_bad_replication, last_number, refusal_number, ◌before◌, ◌when◌}
unfoldable pub use Rattle.bm_base.specs.Machine.Refusals.{block_checks, block_refusal, calls_spent, cluster_checks, is_old, is_still_stored, is_too_long, knows_block, knows_node, knows_storage, node_refusal, refusal_of, round_refusal, storage_refusal}
pub use Rattle.bm_base.specs.Machine.Configuration.{are_allowed, config_refusal, is_allowed, is_up_to, limits_refusal, standard}
pub use Rattle.bm_base.specs.Machine.Calls.{answers, count_call, refused_or, state_after}
unfoldable pub use Rattle.bm_base.specs.Machine.Calls.{after_event, done, done_by, new_replicas, step}
pub use Rattle.bm_base.specs.Machine.Answering.{IfFound, MayAnswer, MayAnswerAll, Refuses, call_takes_memory, checked, is_out_of_memory, is_refused, may_run_out_of_memory, state_after_answer, state_after_answers, takes_memory}
pub use Rattle.bm_base.specs.Ordered.{by_pair}
pub use Rattle.bm_base.specs.Promises.AllStates.{AfterAllCalls, InLawfulStates}
pub use Rattle.bm_base.specs.Promises.Fitting.{FitsStamp}
pub use Rattle.bm_base.specs.Promises.Lawful.{IsLawful, IsLawfulCluster}
pub use Rattle.bm_base.specs.Promises.Sparing.{SparesLastGood}
pub use Rattle.bm_base.specs.RoundParts.{own_transfers}
pub use Rattle.bm_base.specs.Shards.{shard_of}
