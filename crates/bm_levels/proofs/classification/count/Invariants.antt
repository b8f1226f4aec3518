use Rattle.std.proofs.Common.{◌≡◌, ◌≤◌, drop, map}
use Rattle.bm_levels.specs.ReplicaCounts.{none, count_replicas}
use Rattle.bm_levels.specs.ClusterAfter.{rack_after, drains_after}
use Rattle.bm_arena.specs.Triplets.{triplet_view}
use Rattle.bm_levels.proofs.classification.count.Given as goal

-- counting the replicas from this index on gives the count of all; at most one per earlier replica
-- was counted
pub record CountsOn (l : goal.Live-loop-triplet) : Type 0 where
  pub rest : count_replicas (rack_after l.cluster_after) (drains_after l.cluster_after) l.count (drop l.triplet-index (map triplet_view l.triplets))
      ≡ count_replicas (rack_after l.cluster_after) (drains_after l.cluster_after) none (map triplet_view l.triplets)
  pub live : l.count.live ≤ l.triplet-index
  pub drained : l.count.drained ≤ l.triplet-index

abbrev pub invariant-loop-triplet : goal.invariant-loop-triplet
invariant-loop-triplet l = CountsOn l
