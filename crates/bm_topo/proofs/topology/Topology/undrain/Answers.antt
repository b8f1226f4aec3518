use Rattle.std.proofs.Common.{arith, refl, ap, ◌∙◌}
use Rattle.bm_base.specs.Words.{len, remove, undrain}
use Rattle.bm_topo.proofs.Capacity.{same_capacity, no_less_draining}
use Rattle.bm_topo.proofs.SpotTable.{none_set}
use Rattle.bm_topo.proofs.SoundTables.{sound-undrained}
use Rattle.bm_topo.proofs.Lengths.{len-remove}
use Rattle.bm_topo.proofs.topology.Topology.undrain.Goals as goal

pub invariant_of-self : goal.invariant_of-self
invariant_of-self c = (
  sound-undrained _ _ c.self.inside.draining.map _ _ c.args.node (c.remove.ensures.after ∙ ap (remove c.self.inside.draining.map) (c.from.ensures ∙ c.node.view_is)) c.self.invariant.0,
  none_set _ c.self.inside.spots.items,
  c.self.invariant.2,
  c.self.invariant.3,
)

pub returns-clause-after : goal.returns-clause-after
unfolding undrain
returns-clause-after c =
    let limits = ap (λ t. t.cluster.limits) c.self.view_is in
    let nodes = ap (λ t. t.cluster.nodes) c.self.view_is in
    let draining = c.remove.ensures.after ∙ ap (remove c.self.inside.draining.map) (c.from.ensures ∙ c.node.view_is) ∙ ap (λ t. remove t.cluster.draining c.args.node) c.self.view_is in
    let storages = ap (λ t. t.cluster.storages) c.self.view_is in
    λ i. record { limits = limits i; nodes = nodes i; draining = draining i; storages = storages i }

pub returns-clause-no_growth : goal.returns-clause-no_growth
returns-clause-no_growth c =
    same_capacity c.self.inside.nodes c.self.inside.nodes c.self.inside.racks c.self.inside.racks c.self.inside.draining c.remove.new.self c.self.inside.storages c.self.inside.storages c.args.self.now c.self.view_is c.self.invariant.0
    (invariant_of-self c).0 (record { nodes_same = refl; draining_same = c.remove.ensures.no_growth; racks_same = refl; storages_same = refl })

pub returns-clause-kept : goal.returns-clause-kept
returns-clause-kept c =
    let fewer = len-remove c.self.inside.draining.map c.from.result in
    let is = ap len c.remove.ensures.after in
    no_less_draining c.self.inside.nodes c.self.inside.racks c.self.inside.draining c.remove.new.self c.self.inside.storages c.args.self.now c.self.view_is c.remove.ensures.no_growth (omega (arith, fewer, is))
