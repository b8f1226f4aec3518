-- The replicas after notices and full block reports.
use Rattle.std.specs.Prelude.{List, [], ◌∷◌, ◌++◌}
use Rattle.bm_base.specs.declared.call.Call.{Call}
use Rattle.bm_base.specs.declared.call.Answer.{Answer}
use Rattle.bm_base.specs.declared.replica.Tag.TheVariants.{Good, Stale, Bad, Stray}
use Rattle.bm_base.specs.declared.refusal.Refusal.TheVariants.{UnknownStorage, TooMany}
use Rattle.worked_examples.specs.Script.{◌gives◌, Holds, HoldsOnCluster, example_config, register, heartbeat, remaining, add_block, received, corrupt, report, entry, run, round, places, list_replicas, list_corrupt, list_excess, list_storage, ok, commands, deletes_by, delete, replicas, replica, replica_ids, blocks, storages, refused}
use Rattle.worked_examples.specs.Deletes.{one_in_excess}

abbrev pub four_lines : Type 0
four_lines = Holds example_config (
    register 1 1 (11 ∷ []) gives ok 0 0
    ∷ add_block 7 3 gives ok 0 0
    ∷ received 11 7 gives ok 1 0
    ∷ places 7 gives storages (11 ∷ [])
    ∷ [])

-- A report names block 7 twice, the last time with an old generation, and the unknown block 8, but
-- not block 9.
abbrev pub old_generation_last : List (Call × Answer)
old_generation_last =
    add_block 7 3 gives ok 0 0
    ∷ add_block 9 3 gives ok 0 0
    ∷ received 11 7 gives ok 1 0
    ∷ received 11 9 gives ok 1 0
    ∷ report 11 (entry 7 1 ∷ entry 8 1 ∷ entry 7 0 ∷ []) gives ok 1 1
    ∷ list_replicas gives replicas (replica 7 11 Stale ∷ replica 8 11 Stray ∷ [])
    ∷ list_corrupt gives replica_ids ((7, 11) ∷ [])
    ∷ round gives commands 1 (deletes_by 1 (delete 11 8 ∷ []) ∷ [])
    ∷ round gives commands 2 []
    ∷ []

abbrev pub wrong_stamp_in_report : Type 0
wrong_stamp_in_report = HoldsOnCluster example_config old_generation_last

abbrev pub empty_report_clears_storage : Type 0
empty_report_clears_storage = HoldsOnCluster example_config (old_generation_last ++ (
    received 21 7 gives ok 1 0
    ∷ report 11 [] gives ok 0 2
    ∷ list_replicas gives replicas (replica 7 21 Good ∷ [])
    ∷ list_storage 11 gives blocks []
    ∷ list_storage 99 gives refused UnknownStorage
    ∷ []))

abbrev pub block_moves_between_sister_storages : Type 0
block_moves_between_sister_storages = Holds example_config (
    register 1 1 (11 ∷ 12 ∷ []) gives ok 0 0
    ∷ register 2 1 (21 ∷ []) gives ok 0 0
    ∷ register 3 2 (31 ∷ []) gives ok 0 0
    ∷ register 4 2 (41 ∷ []) gives ok 0 0
    ∷ heartbeat 1 (remaining 11 1000 ∷ remaining 12 1000 ∷ []) gives ok 0 0
    ∷ heartbeat 2 (remaining 21 1000 ∷ []) gives ok 0 0
    ∷ heartbeat 3 (remaining 31 1000 ∷ []) gives ok 0 0
    ∷ heartbeat 4 (remaining 41 1000 ∷ []) gives ok 0 0
    ∷ add_block 7 3 gives ok 0 0
    ∷ received 11 7 gives ok 1 0
    ∷ corrupt 11 7 gives ok 0 0
    ∷ received 12 7 gives ok 1 1
    ∷ list_replicas gives replicas (replica 7 12 Good ∷ [])
    ∷ corrupt 12 7 gives ok 0 0
    ∷ report 12 (entry 7 1 ∷ []) gives ok 0 0
    ∷ list_replicas gives replicas (replica 7 12 Bad ∷ [])
    ∷ report 11 (entry 7 0 ∷ entry 7 1 ∷ []) gives ok 1 1
    ∷ list_replicas gives replicas (replica 7 11 Good ∷ [])
    ∷ [])

abbrev pub report_ends_with_right_stamp : Type 0
report_ends_with_right_stamp = HoldsOnCluster example_config (one_in_excess ++ (
    report 21 (entry 7 0 ∷ entry 7 1 ∷ []) gives ok 0 0
    ∷ list_excess gives replica_ids ((7, 21) ∷ [])
    ∷ round gives commands 2 (deletes_by 2 (delete 21 7 ∷ []) ∷ [])
    ∷ []))

abbrev pub report_ends_with_wrong_stamp : Type 0
report_ends_with_wrong_stamp = HoldsOnCluster example_config (one_in_excess ++ (
    report 21 (entry 7 1 ∷ entry 7 0 ∷ []) gives ok 0 0
    ∷ list_excess gives replica_ids []
    ∷ list_corrupt gives replica_ids ((7, 21) ∷ [])
    ∷ []))

-- the entry after the run has another generation for one of its blocks
abbrev pub report_in_runs : Type 0
report_in_runs = HoldsOnCluster example_config (
    add_block 8 3 gives ok 0 0
    ∷ report 11 (run 7 9 1 ∷ entry 8 0 ∷ []) gives ok 3 0
    ∷ list_replicas gives replicas (replica 7 11 Stray ∷ replica 8 11 Stale ∷ replica 9 11 Stray ∷ [])
    ∷ report 11 (run 9 8 1 ∷ []) gives ok 0 3
    ∷ [])

abbrev pub run_at_the_last_number : Type 0
run_at_the_last_number = HoldsOnCluster example_config (
    report 11 (run 18446744073709551615 18446744073709551615 1 ∷ []) gives ok 1 0
    ∷ report 11 (run 0 18446744073709551615 1 ∷ []) gives refused TooMany
    ∷ list_storage 11 gives blocks (18446744073709551615 ∷ [])
    ∷ [])
