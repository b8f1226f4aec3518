-- Which replicas are copied, from where and where to.
use Rattle.std.specs.Prelude.{List, [], ◌∷◌, ◌++◌}
use Rattle.bm_base.specs.declared.call.Call.{Call}
use Rattle.bm_base.specs.declared.call.Answer.{Answer}
use Rattle.bm_base.specs.declared.replica.Tag.TheVariants.{Good}
use Rattle.bm_base.specs.declared.replica.Level.TheVariants.{Highest}
use Rattle.worked_examples.specs.Script.{◌gives◌, HoldsOnCluster, example_config, heartbeat, remaining, add_block, received, level, round, list_replicas, ok, at_level, at_no_level, commands, copies_by, copy, replicas, replica}

-- one of three wanted replicas exists, and two copies are commanded
abbrev pub two_copies : List (Call × Answer)
two_copies =
    add_block 7 3 gives ok 0 0
    ∷ received 11 7 gives ok 1 0
    ∷ level 7 gives at_level Highest
    ∷ round gives commands 1 (copies_by 1 (copy 7 11 31 ∷ copy 7 11 21 ∷ []) ∷ [])
    ∷ []

abbrev pub copies_span_two_racks : Type 0
copies_span_two_racks = HoldsOnCluster example_config two_copies

abbrev pub copies_arrive : Type 0
copies_arrive = HoldsOnCluster example_config (two_copies ++ (
    received 31 7 gives ok 1 0
    ∷ received 21 7 gives ok 1 0
    ∷ level 7 gives at_no_level
    ∷ round gives commands 2 []
    ∷ list_replicas gives replicas (replica 7 11 Good ∷ replica 7 21 Good ∷ replica 7 31 Good ∷ [])
    ∷ []))

abbrev pub two_streams_from_each_node : Type 0
two_streams_from_each_node = HoldsOnCluster example_config (
    add_block 1 4 gives ok 0 0
    ∷ received 11 1 gives ok 1 0
    ∷ received 21 1 gives ok 1 0
    ∷ add_block 2 4 gives ok 0 0
    ∷ received 11 2 gives ok 1 0
    ∷ received 21 2 gives ok 1 0
    ∷ add_block 3 4 gives ok 0 0
    ∷ received 11 3 gives ok 1 0
    ∷ received 21 3 gives ok 1 0
    ∷ round gives commands 1 (copies_by 1 (copy 1 11 31 ∷ copy 2 11 31 ∷ []) ∷ copies_by 2 (copy 1 21 41 ∷ copy 2 21 41 ∷ []) ∷ [])
    ∷ [])

abbrev pub four_streams_for_the_most_urgent : Type 0
four_streams_for_the_most_urgent = HoldsOnCluster example_config (
    add_block 1 2 gives ok 0 0
    ∷ add_block 2 2 gives ok 0 0
    ∷ add_block 3 2 gives ok 0 0
    ∷ add_block 4 2 gives ok 0 0
    ∷ add_block 5 2 gives ok 0 0
    ∷ received 11 1 gives ok 1 0
    ∷ received 11 2 gives ok 1 0
    ∷ received 11 3 gives ok 1 0
    ∷ received 11 4 gives ok 1 0
    ∷ received 11 5 gives ok 1 0
    ∷ round gives commands 1 (copies_by 1 (copy 1 11 31 ∷ copy 2 11 41 ∷ copy 3 11 31 ∷ copy 4 11 41 ∷ []) ∷ [])
    ∷ [])

abbrev pub work_limits_a_round : Type 0
work_limits_a_round = HoldsOnCluster (record example_config { work = 1 }) (
    add_block 1 2 gives ok 0 0
    ∷ add_block 2 2 gives ok 0 0
    ∷ add_block 3 2 gives ok 0 0
    ∷ add_block 4 2 gives ok 0 0
    ∷ add_block 5 2 gives ok 0 0
    ∷ received 11 1 gives ok 1 0
    ∷ received 11 2 gives ok 1 0
    ∷ received 11 3 gives ok 1 0
    ∷ received 31 4 gives ok 1 0
    ∷ received 31 5 gives ok 1 0
    ∷ round gives commands 1 (copies_by 1 (copy 1 11 31 ∷ copy 2 11 41 ∷ copy 3 11 31 ∷ []) ∷ copies_by 3 (copy 4 31 11 ∷ []) ∷ [])
    ∷ [])

abbrev pub pending_transfer_expires : Type 0
pending_transfer_expires = HoldsOnCluster (record example_config { pend = 2 }) (
    add_block 7 2 gives ok 0 0
    ∷ received 11 7 gives ok 1 0
    ∷ round gives commands 1 (copies_by 1 (copy 7 11 31 ∷ []) ∷ [])
    ∷ round gives commands 2 []
    ∷ round gives commands 3 (copies_by 1 (copy 7 11 31 ∷ []) ∷ [])
    ∷ [])

abbrev pub targets_need_free_bytes : Type 0
targets_need_free_bytes = HoldsOnCluster example_config (
    heartbeat 2 (remaining 21 10 ∷ []) gives ok 0 0
    ∷ heartbeat 3 (remaining 31 9 ∷ []) gives ok 0 0
    ∷ heartbeat 4 (remaining 41 5 ∷ []) gives ok 0 0
    ∷ add_block 7 3 gives ok 0 0
    ∷ received 11 7 gives ok 1 0
    ∷ round gives commands 1 (copies_by 1 (copy 7 11 21 ∷ []) ∷ [])
    ∷ [])
