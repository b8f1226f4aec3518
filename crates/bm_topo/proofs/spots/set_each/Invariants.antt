use Rattle.std.proofs.Common.{◌≡◌, length}
use Rattle.bm_base.specs.declared.limits.Limits.{Limits}
use Rattle.bm_topo.specs.Sound.{cluster_of}
use Rattle.bm_topo.specs.Spots.{AreSpots}
use Rattle.bm_topo.proofs.spots.set_each.Given as goal

-- the spots before this index are set
abbrev pub invariant-loop-index : goal.invariant-loop-index
invariant-loop-index l = record {
  set : (limits : Limits) → AreSpots (cluster_of limits l.nodes.map l.draining.map l.storages.map) l.spots l.index;
  len : length l.spots ≡ length l.initial.spots;
}
