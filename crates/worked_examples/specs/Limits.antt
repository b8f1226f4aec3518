-- Limits of nodes, of storages, and of the entries and block numbers of a report.
use Rattle.std.specs.Prelude.{ℕ, zero, suc, ◌-◌, List, [], ◌∷◌, ◌++◌, map, replicate}
use Rattle.std.specs.List.{range_with_len}
use Rattle.bm_base.specs.declared.limits.Limits.{Limits}
use Rattle.bm_base.specs.declared.replica.Tag.TheVariants.{Good}
use Rattle.bm_base.specs.declared.refusal.Refusal.TheVariants.{UnknownNode, NodeKnown, UnknownStorage, StorageKnown, TooMany, CallsSpent}
use Rattle.bm_base.specs.declared.call.Call.{Call}
use Rattle.bm_base.specs.declared.call.Answer.{Answer}
use Rattle.bm_base.specs.Machine.State.{standard_limits}
use Rattle.worked_examples.specs.Script.{◌gives◌, Holds, HoldsWithin, HoldsOnCluster, example_config, register, dead, storage_failed, drain, report, entry, run, list_replicas, add_block, ok, replicas, replica, refused}

-- the 258 accepted calls are the last that can be counted
abbrev pub no_257th_node : Type 0
no_257th_node = Holds (record example_config { first_call = 18446744073709551357 }) (map (λ n. register n 1 [] gives ok 0 0) (range_with_len 1 256) ++ (
    register 257 1 [] gives refused TooMany
    ∷ register 257 1 (7 ∷ 7 ∷ []) gives refused StorageKnown
    ∷ register 256 1 (7 ∷ 7 ∷ []) gives refused NodeKnown
    ∷ dead 256 gives ok 0 0
    ∷ register 257 1 [] gives ok 0 0
    ∷ register 256 1 [] gives refused TooMany
    ∷ dead 256 gives refused UnknownNode
    ∷ dead 257 gives refused CallsSpent
    ∷ []))

-- the two accepted calls are the last that can be counted
abbrev pub no_report_of_65537_entries : Type 0
no_report_of_65537_entries = Holds (record example_config { first_call = 18446744073709551613 }) (
    register 1 1 (11 ∷ []) gives ok 0 0
    ∷ report 11 (replicate 65537 (entry 7 1)) gives refused TooMany
    ∷ add_block 7 3 gives ok 0 0
    ∷ report 11 (replicate 65537 (entry 7 1)) gives refused TooMany
    ∷ report 99 (replicate 65537 (entry 7 1)) gives refused UnknownStorage
    ∷ report 11 (replicate 65536 (entry 7 1)) gives refused CallsSpent
    ∷ list_replicas gives replicas []
    ∷ [])

abbrev pub report_of_65536_entries : Type 0
report_of_65536_entries = Holds example_config (
    register 1 1 (11 ∷ []) gives ok 0 0
    ∷ add_block 7 3 gives ok 0 0
    ∷ report 11 (replicate 65536 (entry 7 1)) gives ok 1 0
    ∷ list_replicas gives replicas (replica 7 11 Good ∷ [])
    ∷ [])

-- The first report names one number more than allowed, the second exactly the allowed number. The
-- accepted call is the last that can be counted, so no number is entered.
abbrev pub too_many_numbers_in_a_report : Type 0
too_many_numbers_in_a_report = Holds (record example_config { first_call = 18446744073709551614 }) (
    register 1 1 (11 ∷ []) gives ok 0 0
    ∷ report 11 (run 0 1048576 1 ∷ []) gives refused TooMany
    ∷ report 11 (run 1 1048576 1 ∷ []) gives refused CallsSpent
    ∷ [])

-- k numbers, descending from `last`
abbrev pub numbers_down : ℕ → ℕ → List ℕ
numbers_down last zero = []
numbers_down last (suc k) = last ∷ numbers_down (last - 1) k

-- With the four of the cluster these are 4,096 storages. They are in descending order, so that the
-- definitions compute.
abbrev pub as_many_as_may_be : List ℕ
as_many_as_may_be = numbers_down 5092 4092

abbrev pub past_the_limit : List (Call × Answer)
past_the_limit =
    register 6 1 (6000 ∷ []) gives refused TooMany
    ∷ register 6 1 (1001 ∷ []) gives refused StorageKnown
    ∷ register 6 1 [] gives ok 0 0
    ∷ storage_failed 1001 gives ok 0 0
    ∷ register 7 1 (6000 ∷ 6001 ∷ []) gives refused TooMany
    ∷ register 7 1 (6000 ∷ []) gives ok 0 0
    ∷ []

abbrev pub storages_at_the_limit : Type 0
storages_at_the_limit = HoldsOnCluster example_config (register 5 1 as_many_as_may_be gives ok 0 0 ∷ past_the_limit)

-- Limits other than the standard ones.

-- at most two nodes and three storages
abbrev pub two_nodes_three_storages : Limits
two_nodes_three_storages = record { nodes = 2; storages = 3 }

-- a draining node counts, and a dead one does not
abbrev pub no_third_node : Type 0
no_third_node = HoldsWithin two_nodes_three_storages example_config (
    register 1 1 [] gives ok 0 0
    ∷ register 2 1 [] gives ok 0 0
    ∷ register 3 1 [] gives refused TooMany
    ∷ drain 1 gives ok 0 0
    ∷ register 3 1 [] gives refused TooMany
    ∷ dead 1 gives ok 0 0
    ∷ register 3 1 [] gives ok 0 0
    ∷ register 1 1 [] gives refused TooMany
    ∷ [])

-- First node 1 has all three storages. Then one fails, and at last the node dies.
abbrev pub no_fourth_storage : Type 0
no_fourth_storage = HoldsWithin two_nodes_three_storages example_config (
    register 1 1 (11 ∷ 12 ∷ 13 ∷ 14 ∷ []) gives refused TooMany
    ∷ register 1 1 (11 ∷ 12 ∷ 13 ∷ []) gives ok 0 0
    ∷ register 2 1 (21 ∷ []) gives refused TooMany
    ∷ storage_failed 13 gives ok 0 0
    ∷ register 2 1 (21 ∷ 22 ∷ []) gives refused TooMany
    ∷ register 2 1 (21 ∷ []) gives ok 0 0
    ∷ dead 1 gives ok 0 0
    ∷ register 3 1 (31 ∷ 32 ∷ 33 ∷ []) gives refused TooMany
    ∷ register 3 1 (31 ∷ 32 ∷ []) gives ok 0 0
    ∷ [])

-- the least limits
abbrev pub one_node_one_storage : Type 0
one_node_one_storage = HoldsWithin (record { nodes = 1; storages = 1 }) example_config (
    register 1 1 (11 ∷ 12 ∷ []) gives refused TooMany
    ∷ register 1 1 (11 ∷ []) gives ok 0 0
    ∷ register 2 1 [] gives refused TooMany
    ∷ dead 1 gives ok 0 0
    ∷ register 2 1 (21 ∷ []) gives ok 0 0
    ∷ [])

-- one node more than the standard limits allow
abbrev pub no_258th_node : Type 0
no_258th_node = HoldsWithin (record standard_limits { nodes = 257 }) example_config (map (λ n. register n 1 [] gives ok 0 0) (range_with_len 1 257) ++ (
    register 258 1 [] gives refused TooMany
    ∷ dead 257 gives ok 0 0
    ∷ register 258 1 [] gives ok 0 0
    ∷ []))
