-- The state of a block manager: one set of marked replicas, with the cluster, the blocks and the
-- counters. Source: the block map of Hadoop 2 (BlocksMap, BlockInfo); HDFS Architecture guide,
-- "Data Replication".
use Rattle.std.specs.Prelude.{ℕ}
use Rattle.std.specs.declared.cmp.Ordering.{Ordering}
use Rattle.std.specs.Ordering.{nat_cmp}
use Rattle.bm_base.specs.declared.replica.ReplicaId.{ReplicaId}
use Rattle.bm_base.specs.declared.replica.Marks.{Marks}
use Rattle.bm_base.specs.declared.replica.BlockInfo.{BlockInfo}
use Rattle.bm_base.specs.declared.storage.StorageInfo.{StorageInfo}
use Rattle.bm_base.specs.declared.config.Config.{Config}
use Rattle.bm_base.specs.declared.limits.Limits.{Limits}
use Rattle.bm_base.specs.declared.limits.TheConstants.{MAX_NODES, MAX_STORAGES}
use Rattle.bm_base.specs.Maps.Map.{Order, Map, Set, by_number, empty}
use Rattle.bm_base.specs.Maps.Lists.{◌if_equal◌}
use Rattle.bm_base.specs.Maps.ReplicaOrder.{replicas_total, replicas_same}

-- replicas by block, and then by storage
abbrev pub replica_cmp : ReplicaId → ReplicaId → Ordering
replica_cmp p q = nat_cmp p.block q.block if_equal nat_cmp p.storage q.storage

abbrev pub by_replica : Order ReplicaId
by_replica = record { cmp = replica_cmp; total = replicas_total; same = replicas_same }

-- the replica of block b on storage s
abbrev pub replica_at : ℕ → ℕ → ReplicaId
replica_at b s = record { block = b; storage = s }

-- the alive nodes and their storages
pub record Cluster : Type 0 where
  -- how many nodes may be alive, and how many storages there may be
  pub limits : Limits
  -- the rack of each alive node
  pub nodes : Map by_number ℕ
  -- the alive nodes that drain: they are to be decommissioned once their replicas are copied
  pub draining : Set by_number
  pub storages : Map by_number StorageInfo

-- the blocks, their replicas and the pending transfers
pub record Holdings : Type 0 where
  pub blocks : Map by_number BlockInfo
  pub replicas : Map by_replica Marks
  -- by block and target, the round in which the transfer was commanded
  pub pending : Map by_replica ℕ

-- the configured values by which rounds choose; no answer depends on shards and workers
pub record RoundLimits : Type 0 where
  pub work : ℕ
  pub invalidate : ℕ
  pub pend : ℕ

abbrev pub limits_of : Config → RoundLimits
limits_of c = record { work = c.work; invalidate = c.invalidate; pend = c.pend }

pub record State : Type 0 where
  pub limits : RoundLimits
  pub cluster : Cluster
  pub holdings : Holdings
  -- the number of the last round
  pub round : ℕ
  -- how many calls were accepted
  pub calls : ℕ

unfoldable pub empty_cluster : Limits → Cluster
empty_cluster l = record { limits = l; nodes = empty; draining = empty; storages = empty }

unfoldable pub empty_holdings : Holdings
empty_holdings = record { blocks = empty; replicas = empty; pending = empty }

-- the state before the first call, within these limits of the cluster
abbrev pub first_state_within : Limits → Config → State
first_state_within l c = record {
  limits = limits_of c;
  cluster = empty_cluster l;
  holdings = empty_holdings;
  round = c.first_round;
  calls = c.first_call;
}

-- the limits of a cluster for which none are given
abbrev pub standard_limits : Limits
standard_limits = record { nodes = MAX_NODES; storages = MAX_STORAGES }

abbrev pub first_state : Config → State
first_state c = first_state_within standard_limits c
