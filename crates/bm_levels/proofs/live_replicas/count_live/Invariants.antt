use Rattle.std.proofs.Common.{◌≡◌, ◌≤◌, ◌+◌, length, map, drop}
use Rattle.bm_base.specs.Machine.Replicas.{is_live_on}
use Rattle.bm_arena.specs.Triplets.{triplet_view}
use Rattle.bm_levels.specs.Status.{storages_at}
use Rattle.bm_levels.proofs.live_replicas.count_live.Given as goal

-- the count so far and that of the rest are the count of all, and it is at most the index
pub record CountsOn (l : goal.Live-loop-triplet) : Type 0 where
  pub rest : l.count + length (storages_at (is_live_on l.topology.cluster) (drop l.triplet-index (map triplet_view l.triplets))) ≡ length (storages_at (is_live_on l.topology.cluster) (map triplet_view l.triplets))
  pub few : l.count ≤ l.triplet-index

abbrev pub invariant-loop-triplet : goal.invariant-loop-triplet
invariant-loop-triplet l = CountsOn l
