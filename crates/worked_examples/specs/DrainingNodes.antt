-- Nodes that drain: their replicas no longer count as live, and are copied to other nodes until the
-- node can be removed.
use Rattle.std.specs.Prelude.{[], ◌∷◌}
use Rattle.bm_base.specs.declared.replica.Level.TheVariants.{Highest}
use Rattle.bm_base.specs.declared.refusal.Refusal.TheVariants.{UnknownNode}
use Rattle.worked_examples.specs.Script.{◌gives◌, HoldsOnCluster, example_config, drain, undrain, add_block, received, level, round, retired, list_missing, ok, at_level, at_no_level, commands, copies_by, copy, deletes_by, delete, blocks, is_retired, is_not_retired, refused}

abbrev pub draining_block_is_copied_and_retired : Type 0
draining_block_is_copied_and_retired = HoldsOnCluster example_config (
    add_block 7 1 gives ok 0 0
    ∷ received 11 7 gives ok 1 0
    ∷ drain 1 gives ok 0 0
    ∷ level 7 gives at_level Highest
    ∷ list_missing gives blocks []
    ∷ retired 1 gives is_not_retired
    ∷ round gives commands 1 (copies_by 1 (copy 7 11 21 ∷ []) ∷ [])
    ∷ received 21 7 gives ok 1 0
    ∷ level 7 gives at_no_level
    ∷ retired 1 gives is_retired
    ∷ undrain 1 gives ok 0 0
    ∷ retired 1 gives is_not_retired
    ∷ round gives commands 2 (deletes_by 2 (delete 21 7 ∷ []) ∷ [])
    ∷ drain 9 gives refused UnknownNode
    ∷ retired 9 gives refused UnknownNode
    ∷ [])

-- Five blocks, each on three nodes. With `work` 2 and four nodes, a round may command eight copies.
abbrev pub draining_node_sends_four : Type 0
draining_node_sends_four = HoldsOnCluster example_config (
    add_block 1 4 gives ok 0 0
    ∷ add_block 2 4 gives ok 0 0
    ∷ add_block 3 4 gives ok 0 0
    ∷ add_block 4 4 gives ok 0 0
    ∷ add_block 5 4 gives ok 0 0
    ∷ received 11 1 gives ok 1 0
    ∷ received 21 1 gives ok 1 0
    ∷ received 31 1 gives ok 1 0
    ∷ received 11 2 gives ok 1 0
    ∷ received 21 2 gives ok 1 0
    ∷ received 31 2 gives ok 1 0
    ∷ received 11 3 gives ok 1 0
    ∷ received 21 3 gives ok 1 0
    ∷ received 31 3 gives ok 1 0
    ∷ received 11 4 gives ok 1 0
    ∷ received 21 4 gives ok 1 0
    ∷ received 31 4 gives ok 1 0
    ∷ received 11 5 gives ok 1 0
    ∷ received 21 5 gives ok 1 0
    ∷ received 31 5 gives ok 1 0
    ∷ drain 1 gives ok 0 0
    ∷ round gives commands 1 (copies_by 1 (copy 1 11 41 ∷ copy 2 11 41 ∷ copy 3 11 41 ∷ copy 4 11 41 ∷ []) ∷ copies_by 2 (copy 5 21 41 ∷ []) ∷ [])
    ∷ [])

abbrev pub no_copy_to_a_draining_node : Type 0
no_copy_to_a_draining_node = HoldsOnCluster example_config (
    add_block 7 2 gives ok 0 0
    ∷ received 11 7 gives ok 1 0
    ∷ round gives commands 1 (copies_by 1 (copy 7 11 31 ∷ []) ∷ [])
    ∷ drain 3 gives ok 0 0
    ∷ round gives commands 2 (copies_by 1 (copy 7 11 41 ∷ []) ∷ [])
    ∷ [])
