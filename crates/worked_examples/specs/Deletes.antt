-- Which replicas are deleted, and when.
use Rattle.std.specs.Prelude.{List, [], ◌∷◌}
use Rattle.bm_base.specs.declared.call.Call.{Call}
use Rattle.bm_base.specs.declared.call.Answer.{Answer}
use Rattle.bm_base.specs.declared.replica.Level.TheVariants.{NoUsableReplica}
use Rattle.bm_base.specs.declared.refusal.Refusal.TheVariants.{BlockKnown, StillStored, OldGeneration}
use Rattle.worked_examples.specs.Script.{◌gives◌, HoldsOnCluster, example_config, dead, add_block, delete_block, restamp, received, received_version, deleted, corrupt, report, level, round, places, list_corrupt, list_missing, list_excess, ok, at_level, commands, copies_by, copy, deletes_by, delete, blocks, storages, replica_ids, entry, refused}

-- a block has one replica more than are wanted
abbrev pub one_in_excess : List (Call × Answer)
one_in_excess =
    add_block 7 2 gives ok 0 0
    ∷ received 11 7 gives ok 1 0
    ∷ received 21 7 gives ok 1 0
    ∷ received 31 7 gives ok 1 0
    ∷ round gives commands 1 (deletes_by 2 (delete 21 7 ∷ []) ∷ [])
    ∷ list_excess gives replica_ids ((7, 21) ∷ [])
    ∷ places 7 gives storages (11 ∷ 21 ∷ 31 ∷ [])
    ∷ []

abbrev pub surplus_keeps_two_racks : Type 0
surplus_keeps_two_racks = HoldsOnCluster example_config one_in_excess

abbrev pub delete_limit_per_node : Type 0
delete_limit_per_node = HoldsOnCluster (record example_config { invalidate = 1 }) (
    add_block 1 1 gives ok 0 0
    ∷ add_block 2 1 gives ok 0 0
    ∷ received 11 1 gives ok 1 0
    ∷ received 31 1 gives ok 1 0
    ∷ received 11 2 gives ok 1 0
    ∷ received 31 2 gives ok 1 0
    ∷ round gives commands 1 (deletes_by 3 (delete 31 1 ∷ []) ∷ [])
    ∷ list_excess gives replica_ids ((1, 31) ∷ (2, 31) ∷ [])
    ∷ dead 1 gives ok 0 2
    ∷ list_missing gives blocks (1 ∷ 2 ∷ [])
    ∷ round gives commands 2 []
    ∷ list_missing gives blocks (1 ∷ [])
    ∷ received 31 1 gives ok 0 0
    ∷ round gives commands 3 []
    ∷ list_missing gives blocks []
    ∷ [])

abbrev pub deleted_block_must_leave_storages : Type 0
deleted_block_must_leave_storages = HoldsOnCluster example_config (
    add_block 7 1 gives ok 0 0
    ∷ received 11 7 gives ok 1 0
    ∷ delete_block 7 gives ok 0 0
    ∷ add_block 7 1 gives refused StillStored
    ∷ round gives commands 1 (deletes_by 1 (delete 11 7 ∷ []) ∷ [])
    ∷ deleted 11 7 gives ok 0 1
    ∷ add_block 7 1 gives ok 0 0
    ∷ add_block 7 0 gives refused BlockKnown
    ∷ [])

abbrev pub restamp_makes_stale : Type 0
restamp_makes_stale = HoldsOnCluster example_config (
    add_block 7 3 gives ok 0 0
    ∷ received 11 7 gives ok 1 0
    ∷ received 31 7 gives ok 1 0
    ∷ restamp 7 2 gives ok 0 0
    ∷ list_corrupt gives replica_ids ((7, 11) ∷ (7, 31) ∷ [])
    ∷ level 7 gives at_level NoUsableReplica
    ∷ received_version 31 7 2 gives ok 0 0
    ∷ list_corrupt gives replica_ids ((7, 11) ∷ [])
    ∷ restamp 7 2 gives refused OldGeneration
    ∷ restamp 7 4 gives ok 0 0
    ∷ [])

abbrev pub corrupt_replica_waits_for_replacement : Type 0
corrupt_replica_waits_for_replacement = HoldsOnCluster example_config (
    add_block 7 3 gives ok 0 0
    ∷ received 11 7 gives ok 1 0
    ∷ received 21 7 gives ok 1 0
    ∷ received 31 7 gives ok 1 0
    ∷ corrupt 11 7 gives ok 0 0
    ∷ round gives commands 1 (copies_by 2 (copy 7 21 41 ∷ []) ∷ [])
    ∷ received 41 7 gives ok 1 0
    ∷ round gives commands 2 (deletes_by 1 (delete 11 7 ∷ []) ∷ [])
    ∷ round gives commands 3 []
    ∷ report 11 (entry 7 1 ∷ []) gives ok 0 0
    ∷ round gives commands 4 (deletes_by 1 (delete 11 7 ∷ []) ∷ [])
    ∷ deleted 11 7 gives ok 0 1
    ∷ deleted 11 7 gives ok 0 0
    ∷ [])
