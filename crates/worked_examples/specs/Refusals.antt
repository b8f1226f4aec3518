-- Which calls are refused, and by which of the checks that fail.
use Rattle.std.specs.Prelude.{◌≡◌, List, [], ◌∷◌, map, replicate, Some, None}
use Rattle.bm_base.specs.declared.replica.Tag.TheVariants.{Stray}
use Rattle.bm_base.specs.declared.refusal.Refusal.TheVariants.{UnknownNode, NodeKnown, UnknownStorage, StorageKnown, UnknownBlock, BlockKnown, StillStored, BadReplication, OldGeneration, NotItsStorage, RoundsSpent, CallsSpent, BadConfig}
use Rattle.bm_base.specs.declared.config.Config.{Config}
use Rattle.bm_base.specs.declared.limits.Limits.{Limits}
use Rattle.bm_base.specs.Machine.State.{standard_limits}
use Rattle.bm_base.specs.Machine.Configuration.{config_refusal, limits_refusal}
use Rattle.worked_examples.specs.Script.{◌gives◌, Holds, HoldsOnCluster, example_config, register, dead, storage_failed, heartbeat, remaining, drain, undrain, add_block, delete_block, set_replication, restamp, received, deleted, corrupt, report, round, list_replicas, list_storage, places, level, retired, count_calls, count_rounds, ok, commands, replicas, replica, storages, is_not_retired, number, refused}

abbrev pub refusals_are_named : Type 0
refusals_are_named = HoldsOnCluster example_config (
    register 1 9 (99 ∷ []) gives refused NodeKnown
    ∷ register 5 1 (51 ∷ 51 ∷ []) gives refused StorageKnown
    ∷ register 5 1 (11 ∷ []) gives refused StorageKnown
    ∷ heartbeat 1 (remaining 21 5 ∷ []) gives refused NotItsStorage
    ∷ heartbeat 1 (remaining 21 5 ∷ remaining 99 5 ∷ []) gives refused UnknownStorage
    ∷ dead 9 gives refused UnknownNode
    ∷ corrupt 11 7 gives refused UnknownBlock
    ∷ storage_failed 11 gives ok 0 0
    ∷ storage_failed 11 gives refused UnknownStorage
    ∷ [])

-- Block 7 is known. Block 8 is unknown, but has a stray replica. Of two checks that fail the first
-- counts.
abbrev pub first_failing_check_counts : Type 0
first_failing_check_counts = HoldsOnCluster example_config (
    add_block 7 3 gives ok 0 0
    ∷ received 11 8 gives ok 1 0
    ∷ register 1 1 (11 ∷ []) gives refused NodeKnown
    ∷ register 1 1 (51 ∷ 51 ∷ []) gives refused NodeKnown
    ∷ heartbeat 9 (remaining 99 5 ∷ remaining 21 5 ∷ []) gives refused UnknownNode
    ∷ heartbeat 9 (remaining 21 5 ∷ []) gives refused UnknownNode
    ∷ heartbeat 1 (remaining 99 5 ∷ remaining 21 5 ∷ []) gives refused UnknownStorage
    ∷ add_block 7 0 gives refused BlockKnown
    ∷ add_block 7 17 gives refused BlockKnown
    ∷ add_block 8 0 gives refused StillStored
    ∷ add_block 8 17 gives refused StillStored
    ∷ add_block 9 0 gives refused BadReplication
    ∷ add_block 9 17 gives refused BadReplication
    ∷ set_replication 8 0 gives refused UnknownBlock
    ∷ set_replication 8 17 gives refused UnknownBlock
    ∷ corrupt 99 8 gives refused UnknownStorage
    ∷ list_replicas gives replicas (replica 8 11 Stray ∷ [])
    ∷ count_calls gives number 10
    ∷ [])

-- The first ten accepted calls are the last that can be counted. After them an event or round whose
-- other checks pass is refused with `CallsSpent`, others as before, and queries are answered.
abbrev pub spent_calls_are_checked_last : Type 0
spent_calls_are_checked_last = HoldsOnCluster (record example_config { first_call = 18446744073709551605 }) (
    add_block 7 3 gives ok 0 0
    ∷ received 11 8 gives ok 1 0
    ∷ count_calls gives number 18446744073709551615
    ∷ register 1 1 [] gives refused NodeKnown
    ∷ register 5 1 (11 ∷ []) gives refused StorageKnown
    ∷ register 5 1 (51 ∷ 51 ∷ []) gives refused StorageKnown
    ∷ register 5 1 (51 ∷ []) gives refused CallsSpent
    ∷ dead 9 gives refused UnknownNode
    ∷ dead 1 gives refused CallsSpent
    ∷ storage_failed 99 gives refused UnknownStorage
    ∷ storage_failed 11 gives refused CallsSpent
    ∷ drain 9 gives refused UnknownNode
    ∷ drain 1 gives refused CallsSpent
    ∷ undrain 9 gives refused UnknownNode
    ∷ undrain 1 gives refused CallsSpent
    ∷ heartbeat 9 [] gives refused UnknownNode
    ∷ heartbeat 1 (remaining 99 5 ∷ []) gives refused UnknownStorage
    ∷ heartbeat 1 (remaining 21 5 ∷ []) gives refused NotItsStorage
    ∷ heartbeat 1 (remaining 11 5 ∷ []) gives refused CallsSpent
    ∷ add_block 7 3 gives refused BlockKnown
    ∷ add_block 8 3 gives refused StillStored
    ∷ add_block 9 0 gives refused BadReplication
    ∷ add_block 9 3 gives refused CallsSpent
    ∷ delete_block 8 gives refused UnknownBlock
    ∷ delete_block 7 gives refused CallsSpent
    ∷ set_replication 8 3 gives refused UnknownBlock
    ∷ set_replication 7 0 gives refused BadReplication
    ∷ set_replication 7 2 gives refused CallsSpent
    ∷ restamp 8 2 gives refused UnknownBlock
    ∷ restamp 7 1 gives refused OldGeneration
    ∷ restamp 7 2 gives refused CallsSpent
    ∷ received 99 7 gives refused UnknownStorage
    ∷ received 11 7 gives refused CallsSpent
    ∷ deleted 99 8 gives refused UnknownStorage
    ∷ deleted 11 8 gives refused CallsSpent
    ∷ corrupt 99 7 gives refused UnknownStorage
    ∷ corrupt 11 8 gives refused UnknownBlock
    ∷ corrupt 11 7 gives refused CallsSpent
    ∷ report 99 [] gives refused UnknownStorage
    ∷ report 11 [] gives refused CallsSpent
    ∷ round gives refused CallsSpent
    ∷ list_storage 99 gives refused UnknownStorage
    ∷ places 8 gives refused UnknownBlock
    ∷ level 8 gives refused UnknownBlock
    ∷ retired 9 gives refused UnknownNode
    ∷ retired 1 gives is_not_retired
    ∷ places 7 gives storages []
    ∷ list_replicas gives replicas (replica 8 11 Stray ∷ [])
    ∷ count_calls gives number 18446744073709551615
    ∷ count_rounds gives number 0
    ∷ [])

abbrev pub rounds_run_out : Type 0
rounds_run_out = HoldsOnCluster (record example_config { first_round = 18446744073709551614 }) (
    round gives commands 18446744073709551615 []
    ∷ round gives refused RoundsSpent
    ∷ [])

abbrev pub calls_run_out : Type 0
calls_run_out = Holds (record example_config { first_call = 18446744073709551614 }) (
    add_block 7 3 gives ok 0 0
    ∷ add_block 8 3 gives refused CallsSpent
    ∷ round gives refused CallsSpent
    ∷ add_block 7 3 gives refused BlockKnown
    ∷ [])

abbrev pub spent_rounds_come_before_spent_calls : Type 0
spent_rounds_come_before_spent_calls =
    Holds (record example_config { first_round = 18446744073709551615; first_call = 18446744073709551615 }) (round gives refused RoundsSpent ∷ [])

-- each field of a configuration just below its range, and just above it
abbrev pub outside_ranges : List Config
outside_ranges =
    record example_config { shards = 0 }
    ∷ record example_config { shards = 65 }
    ∷ record example_config { workers = 0 }
    ∷ record example_config { workers = 17 }
    ∷ record example_config { work = 0 }
    ∷ record example_config { work = 1001 }
    ∷ record example_config { invalidate = 0 }
    ∷ record example_config { invalidate = 1000001 }
    ∷ record example_config { pend = 0 }
    ∷ record example_config { pend = 1000001 }
    ∷ []

-- the least and the greatest value of each field
abbrev pub ends_of_ranges : List Config
ends_of_ranges =
    record { shards = 1; workers = 1; work = 1; invalidate = 1; pend = 1; first_round = 0; first_call = 0 }
    ∷ record { shards = 64; workers = 16; work = 1000; invalidate = 1000000; pend = 1000000; first_round = 18446744073709551615; first_call = 18446744073709551615 }
    ∷ []

abbrev pub outside_ranges_refused : Type 0
outside_ranges_refused = map config_refusal outside_ranges ≡ replicate 10 (Some BadConfig)

abbrev pub ends_of_ranges_accepted : Type 0
ends_of_ranges_accepted = map config_refusal ends_of_ranges ≡ replicate 2 None

-- each limit of the cluster just below its range, and just above it
abbrev pub limits_outside_ranges : List Limits
limits_outside_ranges =
    record standard_limits { nodes = 0 }
    ∷ record standard_limits { nodes = 65537 }
    ∷ record standard_limits { storages = 0 }
    ∷ record standard_limits { storages = 1048577 }
    ∷ []

-- the least and the greatest limits, and the standard ones
abbrev pub limits_in_ranges : List Limits
limits_in_ranges =
    record { nodes = 1; storages = 1 }
    ∷ record { nodes = 65536; storages = 1048576 }
    ∷ standard_limits
    ∷ []

abbrev pub limits_outside_ranges_refused : Type 0
limits_outside_ranges_refused = map limits_refusal limits_outside_ranges ≡ replicate 4 (Some BadConfig)

abbrev pub limits_in_ranges_accepted : Type 0
limits_in_ranges_accepted = map limits_refusal limits_in_ranges ≡ replicate 3 None
