use Rattle.std.proofs.Common.{arith, subst, sym}
use Rattle.bm_topo.specs.Sound.{cluster_of}
use Rattle.bm_topo.specs.Spots.{AreSpots}
use Rattle.bm_topo.proofs.topology.Topology.record_indices.Goals as goal

pub invariant_of-self : goal.invariant_of-self
invariant_of-self c =
    let C = cluster_of c.self.inside.limits c.self.inside.nodes.map c.self.inside.draining.map c.self.inside.storages.map in
    let count = c.len-self-inside.ensures in (
      c.self.invariant.0,
      record {
        few = omega (arith, count, c.set_spots.ensures.len, c.self.invariant.3.spots);
        each = subst (AreSpots C c.set_spots.new.spots.items) (sym count) (c.set_spots.ensures.each c.self.inside.limits);
      },
      c.self.invariant.2,
      record { spots = omega (arith, c.set_spots.ensures.len, c.self.invariant.3.spots); by_node = c.self.invariant.3.by_node },
    )
