-- What a contract sees of the pending transfers. Source: Hadoop 2's PendingReplicationBlocks.
use Rattle.std.specs.Prelude.{ℕ, ◌==◌, nat_eq, List, map, filter}
use Rattle.std.specs.Option.{unwrap_or}
use Rattle.std.specs.Map.{lookup}
use Rattle.bm_base.specs.declared.replica.ReplicaId.{ReplicaId}
use Rattle.bm_base.specs.Words.{Map, entries, by_replica, is_expired}

pub record PendingMap : Type 0 where
  -- by block and target, the round in which the transfer was commanded
  pub map : Map by_replica ℕ
  -- the number of further transfers of a block that there is capacity for
  pub capacities : List (ℕ × ℕ)

-- how many more transfers of the block need no memory
abbrev pub capacity : PendingMap → ℕ → ℕ
capacity p b = unwrap_or (lookup (nat_eq b) p.capacities) 0

-- the blocks with capacity or a transfer, by index
abbrev pub blocks_in : PendingMap → List ℕ
blocks_in p = map (λ e. e.0) p.capacities

-- the targets of a block's transfers, ascending
abbrev pub targets_of : PendingMap → ℕ → List ℕ
targets_of p b = map (λ e. e.0.storage) (filter (λ e. e.0.block == b) (entries p.map))

-- the transfers that are expired as round r begins, by block and then by target
abbrev pub expired_of : ℕ → ℕ → Map by_replica ℕ → List ReplicaId
expired_of pend r m = map (λ e. e.0) (filter (λ e. is_expired pend r e.1) (entries m))
