-- The usable replicas of a block, from which it can be copied, and what they say of the block.
use Rattle.std.specs.Prelude.{ℕ, ◌-◌, ◌*◌, ◌==◌, ◌≤◌, ◌<◌, ◌^◌, Bool, true, false, not, if◌then◌else◌, List, filter, filter_map, length, count_by, take, slice_get, Option, None, Some, option_and_then}
use Rattle.std.specs.Option.{option_map_or}
use Rattle.std.specs.List.{list_any}
use Rattle.bm_base.specs.declared.replica.BlockInfo.{BlockInfo}
use Rattle.bm_base.specs.declared.replica.Level.{Level}
use Rattle.bm_base.specs.declared.limits.TheConstants.{MAX_REPLICATION}
use Rattle.bm_base.specs.Machine.Levels.{level_of}
use Rattle.bm_base.specs.Machine.State.{Cluster}
use Rattle.bm_base.specs.Machine.Replicas.{node_of, rack_of, is_draining}
use Rattle.bm_base.specs.Spread.{spread}
use Rattle.cluster_lost.specs.declared.sources.Source.{Source}

-- a usable replica on storage s, where `row_of` gives the row that is lost with a node
abbrev pub source_of : Cluster → (ℕ → Option ℕ) → ℕ → Source
source_of C row_of s = record { row = option_and_then row_of (node_of C s); rack = rack_of C s; live = not (is_draining C s) }

abbrev pub source_by : Option ℕ → Option ℕ → Bool → Source
source_by row rack live = record { row = row; rack = rack; live = live }

-- whether row k loses a replica, and whether it loses one of these
abbrev pub is_of : ℕ → Source → Bool
is_of k u = option_map_or (λ own. own == k) u.row false

abbrev pub touches : ℕ → List Source → Bool
touches k us = list_any (is_of k) us

-- those that row k does not lose
abbrev pub left_without : ℕ → List Source → List Source
left_without k us = filter (λ u. not (is_of k u)) us

abbrev pub live_by : List Source → ℕ
live_by us = count_by (λ u. u.live) us

abbrev pub drained_by : List Source → ℕ
drained_by us = count_by (λ u. not u.live) us

-- the racks of the live ones
abbrev pub racks_by : List Source → List ℕ
racks_by us = filter_map (λ u. if u.live then u.rack else None) us

-- the level in a cluster of several racks
abbrev pub level_by : BlockInfo → List Source → Option Level
level_by i us = level_of (record { live = live_by us; drained = drained_by us; wanted = i.repl; racks = spread (racks_by us); multi_rack = true })

-- The bytes of the copies that a block lacks: its length, times the wanted replicas that are not
-- live. It is 0 if no replica is usable, so that there is none to copy from.
abbrev pub bytes_to_copy : BlockInfo → ℕ → ℕ → ℕ
bytes_to_copy i live usable = if usable == 0 then 0 else (i.repl - live) * i.stamp.len

abbrev pub lacking_by : BlockInfo → List Source → ℕ
lacking_by i us = bytes_to_copy i (live_by us) (length us)

-- the wanted replicas and the length of a block of a lawful state
pub record IsFew (i : BlockInfo) : Type 0 where
  pub repl : i.repl ≤ MAX_REPLICATION
  pub len : i.stamp.len < 2 ^ 64

-- the row that loses the replica at an index, unless it loses an earlier one too
abbrev pub first_row : List Source → ℕ → Option ℕ
first_row us j = option_and_then (λ u. option_and_then (λ k. if touches k (take j us) then None else Some k) u.row) (slice_get us j)
