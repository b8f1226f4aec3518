-- How urgently blocks need replicas.
use Rattle.std.specs.Prelude.{◌≡◌, ℕ, Bool, true, false, Some, None, List, [], ◌∷◌, ◌++◌}
use Rattle.bm_base.specs.declared.call.Call.{Call}
use Rattle.bm_base.specs.declared.call.Answer.{Answer}
use Rattle.bm_base.specs.declared.replica.Level.TheVariants.{Highest, VeryUnderReplicated, UnderReplicated, BadlyDistributed, NoUsableReplica}
use Rattle.bm_base.specs.declared.refusal.Refusal.TheVariants.{UnknownBlock, BadReplication}
use Rattle.bm_base.specs.Machine.Levels.{BlockCounts, level_of}
use Rattle.worked_examples.specs.Script.{◌gives◌, HoldsOnCluster, example_config, register, dead, drain, add_block, set_replication, received, level, round, list_missing, list_excess, ok, at_level, at_no_level, commands, copies_by, copy, deletes_by, delete, blocks, replica_ids, refused}

abbrev pub counts : ℕ → ℕ → ℕ → ℕ → Bool → BlockCounts
counts live drained wanted racks multi_rack = record {
  live = live;
  drained = drained;
  wanted = wanted;
  racks = racks;
  multi_rack = multi_rack;
}

abbrev pub block_without_replicas_is_missing : Type 0
block_without_replicas_is_missing = HoldsOnCluster example_config (
    add_block 7 3 gives ok 0 0
    ∷ list_missing gives blocks (7 ∷ [])
    ∷ level 7 gives at_level NoUsableReplica
    ∷ round gives commands 1 []
    ∷ [])

abbrev pub levels_follow_replication : Type 0
levels_follow_replication = HoldsOnCluster example_config (
    add_block 7 6 gives ok 0 0
    ∷ received 11 7 gives ok 1 0
    ∷ received 31 7 gives ok 1 0
    ∷ level 7 gives at_level UnderReplicated
    ∷ set_replication 7 7 gives ok 0 0
    ∷ level 7 gives at_level VeryUnderReplicated
    ∷ set_replication 7 2 gives ok 0 0
    ∷ level 7 gives at_no_level
    ∷ set_replication 7 16 gives ok 0 0
    ∷ set_replication 7 17 gives refused BadReplication
    ∷ set_replication 7 0 gives refused BadReplication
    ∷ set_replication 6 0 gives refused UnknownBlock
    ∷ [])

-- both replicas of a block are on one of the two racks
abbrev pub on_one_rack : List (Call × Answer)
on_one_rack =
    add_block 7 2 gives ok 0 0
    ∷ received 11 7 gives ok 1 0
    ∷ received 21 7 gives ok 1 0
    ∷ level 7 gives at_level BadlyDistributed
    ∷ []

abbrev pub badly_distributed_block_gets_second_rack : Type 0
badly_distributed_block_gets_second_rack = HoldsOnCluster example_config (on_one_rack ++ (
    round gives commands 1 (copies_by 1 (copy 7 11 31 ∷ []) ∷ [])
    ∷ received 31 7 gives ok 1 0
    ∷ round gives commands 2 (deletes_by 2 (delete 21 7 ∷ []) ∷ [])
    ∷ []))

abbrev pub one_rack_is_enough_where_no_other_is_alive : Type 0
one_rack_is_enough_where_no_other_is_alive = HoldsOnCluster example_config (on_one_rack ++ (
    dead 3 gives ok 0 0
    ∷ dead 4 gives ok 0 0
    ∷ level 7 gives at_no_level
    ∷ register 5 2 [] gives ok 0 0
    ∷ level 7 gives at_level BadlyDistributed
    ∷ drain 5 gives ok 0 0
    ∷ level 7 gives at_level BadlyDistributed
    ∷ []))

abbrev pub drained_replica_is_on_no_rack : Type 0
drained_replica_is_on_no_rack = HoldsOnCluster example_config (on_one_rack ++ (
    received 31 7 gives ok 1 0
    ∷ level 7 gives at_no_level
    ∷ drain 3 gives ok 0 0
    ∷ level 7 gives at_level BadlyDistributed
    ∷ []))

abbrev pub queue_follows_death : Type 0
queue_follows_death = HoldsOnCluster (record example_config { invalidate = 1 }) (
    add_block 1 2 gives ok 0 0
    ∷ add_block 2 2 gives ok 0 0
    ∷ received 11 1 gives ok 1 0
    ∷ received 31 1 gives ok 1 0
    ∷ received 41 1 gives ok 1 0
    ∷ received 11 2 gives ok 1 0
    ∷ received 31 2 gives ok 1 0
    ∷ received 41 2 gives ok 1 0
    ∷ round gives commands 1 (deletes_by 4 (delete 41 1 ∷ []) ∷ [])
    ∷ list_excess gives replica_ids ((1, 41) ∷ (2, 41) ∷ [])
    ∷ dead 1 gives ok 0 2
    ∷ level 2 gives at_level Highest
    ∷ round gives commands 2 (copies_by 3 (copy 1 31 21 ∷ []) ∷ copies_by 4 (copy 2 41 21 ∷ []) ∷ [])
    ∷ level 2 gives at_level BadlyDistributed
    ∷ [])

-- Levels by counts: of live, drained and wanted replicas, of racks of the live ones, and whether
-- nodes are on several racks.
abbrev pub first_replica_makes_a_block_the_first_to_copy : Type 0
first_replica_makes_a_block_the_first_to_copy =
    (level_of (counts 0 0 3 0 true) ≡ Some NoUsableReplica) × (level_of (counts 1 0 3 1 true) ≡ Some Highest) × (level_of (counts 0 1 3 0 true) ≡ Some Highest)

abbrev pub second_rack_may_raise_need : Type 0
second_rack_may_raise_need = (level_of (counts 2 0 2 1 false) ≡ None) × (level_of (counts 2 0 2 1 true) ≡ Some BadlyDistributed)
