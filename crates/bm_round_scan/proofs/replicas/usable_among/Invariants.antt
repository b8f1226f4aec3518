use Rattle.std.proofs.Common.{◌≡◌, ◌++◌, ℕ, List, drop}
use Rattle.bm_base.specs.declared.replica.Marks.{Marks}
use Rattle.bm_base.specs.Words.{Cluster, is_live_on, is_drained_on}
use Rattle.bm_levels.specs.Status.{storages_at}
use Rattle.bm_round_scan.proofs.replicas.usable_among.Given as goal

-- those so far and those of the rest are all
pub record Reaches (C : Cluster) (ls ds : List ℕ) (rest all : List (ℕ × Marks)) : Type 0 where
  pub live : ls ++ storages_at (is_live_on C) rest ≡ storages_at (is_live_on C) all
  pub drained : ds ++ storages_at (is_drained_on C) rest ≡ storages_at (is_drained_on C) all

abbrev pub invariant-loop-storage : goal.invariant-loop-storage
invariant-loop-storage l = Reaches l.topology.cluster l.live l.drained (drop l.storage-index l.replicas) l.replicas
