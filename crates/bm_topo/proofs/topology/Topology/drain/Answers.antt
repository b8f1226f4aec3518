use Rattle.std.proofs.Common.{refl, ap, ◌∙◌}
use Rattle.bm_base.specs.Words.{contains_key, insert, drain}
use Rattle.bm_topo.proofs.Capacity.{same_capacity}
use Rattle.bm_topo.proofs.SpotTable.{none_set}
use Rattle.bm_topo.proofs.SoundTables.{sound-drained}
use Rattle.bm_topo.proofs.topology.Topology.drain.Goals as goal

pub invariant_of-self : goal.invariant_of-self
invariant_of-self c = (
  sound-drained _ _ c.self.inside.draining.map _ _ c.args.node (ap (λ t. contains_key t.cluster.nodes c.args.node) c.self.view_is ∙ c.requires.alive)
      (c.insert_reserved.ensures.after ∙ ap (λ k. insert c.self.inside.draining.map k tt) (c.from.ensures ∙ c.node.view_is)) c.self.invariant.0,
  none_set _ c.self.inside.spots.items,
  c.self.invariant.2,
  c.self.invariant.3,
)

pub returns-clause-after : goal.returns-clause-after
unfolding drain
returns-clause-after c =
    let limits = ap (λ t. t.cluster.limits) c.self.view_is in
    let nodes = ap (λ t. t.cluster.nodes) c.self.view_is in
    let draining = c.insert_reserved.ensures.after ∙ ap (λ k. insert c.self.inside.draining.map k tt) (c.from.ensures ∙ c.node.view_is) ∙ ap (λ t. insert t.cluster.draining c.args.node tt) c.self.view_is in
    let storages = ap (λ t. t.cluster.storages) c.self.view_is in
    λ i. record { limits = limits i; nodes = nodes i; draining = draining i; storages = storages i }

pub returns-clause-no_growth : goal.returns-clause-no_growth
returns-clause-no_growth c =
    same_capacity c.self.inside.nodes c.self.inside.nodes c.self.inside.racks c.self.inside.racks c.self.inside.draining c.insert_reserved.new.self c.self.inside.storages c.self.inside.storages c.args.self.now c.self.view_is c.self.invariant.0
    (invariant_of-self c).0 (record { nodes_same = refl; draining_same = c.insert_reserved.ensures.no_growth; racks_same = refl; storages_same = refl })
