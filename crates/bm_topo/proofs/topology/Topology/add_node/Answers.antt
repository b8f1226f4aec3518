use Rattle.std.proofs.Common.{◌≡◌, ◌+◌, None, arith, ap, sym, subst, ◌∙◌}
use Rattle.bm_base.specs.declared.event.Event.TheVariants.{Register}
use Rattle.bm_base.specs.Words.{insert, insert_all, remove, len, register, first_of, cluster_checks}
use Rattle.bm_topo.specs.NewStorages.{new_storages}
use Rattle.bm_topo.specs.Racks.{on_rack}
use Rattle.bm_topo.proofs.RackChanges.{on_rack-le}
use Rattle.bm_topo.proofs.Capacity.{same_capacity, room_kept}
use Rattle.bm_topo.proofs.SpotTable.{none_set}
use Rattle.bm_topo.proofs.SoundTables.{sound-joined, most_nodes}
use Rattle.bm_topo.proofs.topology.Topology.add_node.Goals as goal

pub overflow_add-count : goal.overflow_add-count
overflow_add-count c =
    let few = on_rack-le c.args.self.now.cluster.nodes c.args.rack in
    let same = ap (λ t. len t.cluster.nodes) c.self.view_is in
    let sound = c.self.invariant.0 in
    omega (arith, few, same, c.count_on-count.ensures, sound.lawful.few_nodes, most_nodes c.self.inside.limits sound.allowed)

pub sort_by_node-requires : goal.sort_by_node-requires
sort_by_node-requires c = record {
  few = omega (arith, c.self.invariant.3.by_node, c.add_storages.ensures.no_growth);
  small = c.add_storages.ensures.small c.self.invariant.0.storage_ids;
}

pub invariant_of-self : goal.invariant_of-self
invariant_of-self c =
    let accepted = subst (λ C. first_of (cluster_checks C (Register c.args.node c.args.rack c.args.storages.now)) ≡ None) (sym (ap (λ t. t.cluster) c.self.view_is)) c.requires.accepted in
    let count = c.count_on-count.ensures ∙ sym (ap (λ t. on_rack t.cluster.nodes c.args.rack) c.self.view_is) in
    let nodes = c.insert_reserved-2.ensures.after ∙ ap (λ k. insert c.self.inside.nodes.map k c.args.rack) (c.from-2.ensures ∙ c.node.view_is) in
    let racks = c.insert_reserved.ensures.after ∙ ap (λ k. insert c.self.inside.racks.map k (c.count_on-count.result + 1)) (c.from.ensures ∙ c.rack.view_is) in
    let draining = c.remove.ensures.after ∙ ap (remove c.self.inside.draining.map) (c.from-3.ensures ∙ c.node.view_is) in (
      sound-joined c.self.inside.nodes.map c.self.inside.racks.map _ _ c.self.inside.draining.map _ c.self.inside.storages.map _ c.args.node c.args.rack c.count_on-count.result c.args.storages.now (omega arith) accepted count nodes racks draining
          c.add_storages.ensures.after c.add_storages.ensures.small c.self.invariant.0,
      none_set _ c.self.inside.spots.items,
      c.sort_by_node.ensures.sorted,
      room_kept c.self.invariant.3 c.add_storages.ensures.no_growth c.sort_by_node.ensures.no_growth,
    )

pub returns-clause-after : goal.returns-clause-after
unfolding register
returns-clause-after c =
    let limits = ap (λ t. t.cluster.limits) c.self.view_is in
    let nodes =
    c.insert_reserved-2.ensures.after ∙ ap (λ k. insert c.self.inside.nodes.map k c.args.rack) (c.from-2.ensures ∙ c.node.view_is)
    ∙ ap (λ t. insert t.cluster.nodes c.args.node c.args.rack) c.self.view_is in
    let storages = c.add_storages.ensures.after ∙ ap (λ t. insert_all t.cluster.storages (new_storages c.args.node c.args.storages.now)) c.self.view_is in
    let draining = c.remove.ensures.after ∙ ap (remove c.self.inside.draining.map) (c.from-3.ensures ∙ c.node.view_is) ∙ ap (λ t. remove t.cluster.draining c.args.node) c.self.view_is in
    λ i. record { limits = limits i; nodes = nodes i; draining = draining i; storages = storages i }

pub returns-clause-no_growth : goal.returns-clause-no_growth
returns-clause-no_growth c =
    same_capacity c.self.inside.nodes c.insert_reserved-2.new.self c.self.inside.racks c.insert_reserved.new.self c.self.inside.draining c.remove.new.self c.self.inside.storages c.add_storages.new.storages c.args.self.now c.self.view_is c.self.invariant.0
    (invariant_of-self c).0 (record {
      nodes_same = c.insert_reserved-2.ensures.no_growth;
      draining_same = c.remove.ensures.no_growth;
      racks_same = c.insert_reserved.ensures.no_growth;
      storages_same = c.add_storages.ensures.no_growth;
    })
