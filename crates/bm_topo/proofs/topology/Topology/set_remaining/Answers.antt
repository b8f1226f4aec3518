use Rattle.std.proofs.Common.{refl, ap, ◌∙◌, arith}
use Rattle.bm_base.specs.Words.{len, heartbeat, set_remaining}
use Rattle.bm_topo.proofs.Capacity.{no_less_storages, room_kept}
use Rattle.bm_topo.proofs.SpotTable.{spots_reported}
use Rattle.bm_topo.proofs.ByNode.{by_node_reported}
use Rattle.bm_topo.proofs.SoundTables.{sound-reported, len-set_remaining}
use Rattle.bm_topo.proofs.topology.Topology.set_remaining.Goals as goal

pub invariant_of-self : goal.invariant_of-self
invariant_of-self c = (
  sound-reported _ _ _ c.self.inside.storages.map _ c.args.remaining.now c.set_remaining.ensures.after c.self.invariant.0,
  spots_reported _ _ c.self.inside.storages.map _ c.args.remaining.now c.set_remaining.ensures.after _ _ c.self.invariant.1,
  by_node_reported c.self.inside.storages.map _ c.args.remaining.now c.self.inside.by_node.items c.set_remaining.ensures.after c.self.invariant.2,
  room_kept c.self.invariant.3 c.set_remaining.ensures.no_growth refl,
)

pub returns-clause-after : goal.returns-clause-after
unfolding heartbeat
returns-clause-after c =
    let limits = ap (λ t. t.cluster.limits) c.self.view_is in
    let nodes = ap (λ t. t.cluster.nodes) c.self.view_is in
    let draining = ap (λ t. t.cluster.draining) c.self.view_is in
    let storages = c.set_remaining.ensures.after ∙ ap (λ t. set_remaining t.cluster.storages c.args.remaining.now) c.self.view_is in
    λ i. record { limits = limits i; nodes = nodes i; draining = draining i; storages = storages i }

pub returns-clause-kept : goal.returns-clause-kept
returns-clause-kept c =
    let fewer = len-set_remaining c.args.remaining.now c.self.inside.storages.map in
    let is = ap len c.set_remaining.ensures.after in
    no_less_storages c.self.inside.nodes c.self.inside.racks c.self.inside.draining c.self.inside.storages c.set_remaining.new.storages c.args.self.now c.self.view_is c.set_remaining.ensures.no_growth (omega (arith, fewer, is))
