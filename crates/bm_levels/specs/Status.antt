-- How urgent a block is, and whether a round has to scan it, by the replicas at its slot, in any
-- order.
use Rattle.std.specs.Prelude.{ℕ, Bool, true, false, not, ◌&&◌, ◌==◌, if◌then◌else◌, nat_le, List, map, filter, filter_map, length, Option, Some, None, option_and_then}
use Rattle.std.specs.Option.{option_map_or}
use Rattle.std.specs.List.{list_any}
use Rattle.bm_base.specs.declared.replica.Marks.{Marks}
use Rattle.bm_base.specs.declared.replica.BlockInfo.{BlockInfo}
use Rattle.bm_base.specs.declared.replica.Level.{Level}
use Rattle.bm_base.specs.Words.{Cluster, is_good, is_usable, node_of, rack_of, drains, is_draining, is_multi_rack, level_of}
use Rattle.bm_base.specs.Spread.{spread}
use Rattle.bm_arena.specs.Triplets.{Block}
use Rattle.bm_levels.specs.declared.classification.DrainChange.{DrainChange}

-- whether the node of a storage drains, once a node begins or ceases to
unfoldable pub drains_after_change : Cluster → Option DrainChange → ℕ → Bool
drains_after_change C None s = is_draining C s
drains_after_change C (Some t) s = option_map_or (λ n. if n == t.node then t.drains else drains C n) (node_of C s) false

-- of the replicas at a slot, the storages of those that pass a test
abbrev pub storages_at : (ℕ → Marks → Bool) → List (ℕ × Marks) → List ℕ
storages_at p rs = map (λ r. r.0) (filter (λ r. p r.0 r.1) rs)

-- whether a replica is live, and whether it is drained, given the storages on nodes that drain
abbrev pub is_live_by : (ℕ → Bool) → ℕ → Marks → Bool
is_live_by draining s m = is_usable m && not (draining s)

abbrev pub is_drained_by : (ℕ → Bool) → ℕ → Marks → Bool
is_drained_by draining s m = is_usable m && draining s

-- The level of the block at a slot, for these racks of storages, these storages on draining nodes,
-- and one rack or several; none without a known block.
unfoldable pub level_by : (ℕ → Option ℕ) → (ℕ → Bool) → Bool → Option Block → Option Level
level_by rack draining multi o =
    option_and_then (λ (k : Block). option_and_then (λ (i : BlockInfo).
    level_of (record { live = length (storages_at (is_live_by draining) k.replicas); drained = length (storages_at (is_drained_by draining) k.replicas); wanted = i.repl; racks = spread (filter_map rack (storages_at (is_live_by draining) k.replicas)); multi_rack = multi })) k.info) o

-- as `level_by`, in a cluster
abbrev pub level_in : Cluster → Option Block → Option Level
level_in C o = level_by (rack_of C) (is_draining C) (is_multi_rack C) o

-- good, not in excess and not ordered to be deleted
abbrev pub is_good_and_unmarked : Marks → Bool
is_good_and_unmarked m = is_good m.tag && not m.excess && not m.ordered

-- Whether a round need not scan the block at a slot: all replicas are good without marks, and there
-- are no more of them than are wanted.
unfoldable pub is_settled_at : Option Block → Bool
is_settled_at o =
    option_map_or (λ (k : Block). not (list_any (λ r. not (is_good_and_unmarked r.1)) k.replicas) && option_map_or (λ (i : BlockInfo). nat_le (length k.replicas) i.repl) k.info true) o true
