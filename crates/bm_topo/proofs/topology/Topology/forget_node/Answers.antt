use Rattle.std.proofs.Common.{◌≡◌, Some, arith, refl, ap, sym, ◌∙◌}
use Rattle.bm_base.specs.Maps.Map.{get, contains_key, len, remove}
use Rattle.bm_topo.specs.Racks.{on_rack, without_one}
use Rattle.bm_topo.proofs.RackChanges.{remove_absent, rack_has_node}
use Rattle.bm_topo.proofs.Capacity.{same_capacity, no_less, len-without_one}
use Rattle.bm_topo.proofs.Lengths.{len-remove}
use Rattle.bm_topo.proofs.SpotTable.{none_set}
use Rattle.bm_topo.proofs.SoundTables.{sound-left}
use Rattle.bm_topo.proofs.topology.Topology.forget_node.Goals as goal

pub returns-in_default-clause-after : goal.returns-in_default-clause-after
returns-in_default-clause-after c =
    let nodes = sym (remove_absent c.args.self.now.cluster.nodes c.args.node (sym c.rack_of_node.ensures ∙ c.in_default.is)) in
    λ i. record { limits = c.args.self.now.cluster.limits; nodes = nodes i; draining = c.args.self.now.cluster.draining; storages = c.args.self.now.cluster.storages }

pub leave_rack-requires : goal.leave_rack-requires
leave_rack-requires c =
    let one = rack_has_node c.args.self.now.cluster.nodes c.args.node c.in-Some.rack (sym c.rack_of_node.ensures ∙ c.in-Some.is) in
    omega (arith, one, c.count_on-count.ensures)

pub invariant_of-self : goal.invariant_of-self
invariant_of-self c =
    let there : get c.self.inside.nodes.map c.args.node ≡ Some c.in-Some.rack = ap (λ t. get t.cluster.nodes c.args.node) c.self.view_is ∙ sym c.rack_of_node.ensures ∙ c.in-Some.is in
    let counted = c.count_on-count.ensures ∙ sym (ap (λ t. on_rack t.cluster.nodes c.in-Some.rack) c.self.view_is) in (
      sound-left c.self.inside.nodes.map c.self.inside.racks.map _ _ _ _ c.args.node c.in-Some.rack there (c.remove.ensures.after ∙ ap (remove c.self.inside.nodes.map) (c.from.ensures ∙ c.node.view_is))
          (c.leave_rack.ensures.after ∙ ap (without_one c.self.inside.racks.map c.in-Some.rack) counted)
          (λ s i e. c.requires.storages s i (ap (λ t. get t.cluster.storages s) (sym c.self.view_is) ∙ e)) (ap (λ t. contains_key t.cluster.draining c.args.node) c.self.view_is ∙ c.requires.draining) c.self.invariant.0,
      none_set _ c.self.inside.spots.items,
      c.self.invariant.2,
      c.self.invariant.3,
    )

pub returns-clause-no_growth : goal.returns-clause-no_growth
returns-clause-no_growth c =
    same_capacity c.self.inside.nodes c.remove.new.self c.self.inside.racks c.leave_rack.new.racks c.self.inside.draining c.self.inside.draining c.self.inside.storages c.self.inside.storages c.args.self.now c.self.view_is c.self.invariant.0 (invariant_of-self c).0
    (record { nodes_same = c.remove.ensures.no_growth; draining_same = refl; racks_same = c.leave_rack.ensures.no_growth; storages_same = refl })

pub returns-clause-kept : goal.returns-clause-kept
returns-clause-kept c =
    let nodes = len-remove c.self.inside.nodes.map c.from.result in
    let nodes_is = ap len c.remove.ensures.after in
    let racks = len-without_one c.self.inside.racks.map c.in-Some.rack c.count_on-count.result in
    let racks_is = ap len c.leave_rack.ensures.after in
    no_less c.self.inside.nodes c.remove.new.self c.self.inside.racks c.leave_rack.new.racks c.self.inside.draining c.self.inside.draining c.self.inside.storages c.self.inside.storages c.args.self.now c.self.view_is
    (record { nodes_same = c.remove.ensures.no_growth; draining_same = refl; racks_same = c.leave_rack.ensures.no_growth; storages_same = refl })
    (record { nodes_fewer = omega (arith, nodes, nodes_is); draining_fewer = omega arith; racks_fewer = omega (arith, racks, racks_is); storages_fewer = omega arith })
