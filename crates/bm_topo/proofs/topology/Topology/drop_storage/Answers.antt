use Rattle.std.proofs.Common.{ap, ◌∙◌, arith}
use Rattle.bm_base.specs.Words.{len, remove, without_storage}
use Rattle.bm_topo.proofs.Capacity.{no_less_storages, room_kept}
use Rattle.bm_topo.proofs.Lengths.{len-remove}
use Rattle.bm_topo.proofs.SpotTable.{none_set}
use Rattle.bm_topo.proofs.SoundTables.{sound-removed}
use Rattle.bm_topo.proofs.topology.Topology.drop_storage.Goals as goal

pub invariant_of-self : goal.invariant_of-self
invariant_of-self c = (
  sound-removed _ _ _ c.self.inside.storages.map _ c.from.result c.remove.ensures.after c.self.invariant.0,
  none_set _ c.self.inside.spots.items,
  c.sort_by_node.ensures.sorted,
  room_kept c.self.invariant.3 c.remove.ensures.no_growth c.sort_by_node.ensures.no_growth,
)

pub sort_by_node-requires : goal.sort_by_node-requires
sort_by_node-requires c =
    let sound = sound-removed _ _ _ c.self.inside.storages.map _ c.from.result c.remove.ensures.after c.self.invariant.0 in
    record { few = omega (arith, c.self.invariant.3.by_node, c.remove.ensures.no_growth); small = sound.storage_ids }

pub returns-clause-after : goal.returns-clause-after
unfolding without_storage
returns-clause-after c =
    let limits = ap (λ t. t.cluster.limits) c.self.view_is in
    let nodes = ap (λ t. t.cluster.nodes) c.self.view_is in
    let draining = ap (λ t. t.cluster.draining) c.self.view_is in
    let storages = c.remove.ensures.after ∙ ap (remove c.self.inside.storages.map) (c.from.ensures ∙ c.storage.view_is) ∙ ap (λ t. remove t.cluster.storages c.args.storage) c.self.view_is in
    λ i. record { limits = limits i; nodes = nodes i; draining = draining i; storages = storages i }

pub returns-clause-kept : goal.returns-clause-kept
returns-clause-kept c =
    let fewer = len-remove c.self.inside.storages.map c.from.result in
    let is = ap len c.remove.ensures.after in
    no_less_storages c.self.inside.nodes c.self.inside.racks c.self.inside.draining c.self.inside.storages c.remove.new.self c.args.self.now c.self.view_is c.remove.ensures.no_growth (omega (arith, fewer, is))
