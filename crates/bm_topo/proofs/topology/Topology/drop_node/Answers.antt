use Rattle.std.proofs.Common.{not, refl, ap, ◌∙◌, arith}
use Rattle.std.specs.Prelude.{◌==◌}
use Rattle.bm_base.specs.Words.{keep, len, remove, without_node}
use Rattle.bm_base.proofs.Differences.{len-keep-le}
use Rattle.bm_topo.proofs.Capacity.{seen_of, no_less, no_less-then, room_kept}
use Rattle.bm_topo.proofs.Lengths.{len-remove}
use Rattle.bm_topo.proofs.SpotTable.{none_set}
use Rattle.bm_topo.proofs.SoundTables.{sound-kept, others_kept, none_left, not_left}
use Rattle.bm_topo.proofs.topology.Topology.drop_node.Goals as goal

pub invariant_of-self : goal.invariant_of-self
invariant_of-self c =
    let left = c.remove.ensures.after ∙ ap (remove c.self.inside.draining.map) (c.from.ensures ∙ c.node.view_is) in (
      sound-kept _ _ c.self.inside.draining.map _ c.self.inside.storages.map _ c.args.node c.drop_storages.ensures.after left c.self.invariant.0,
      none_set _ c.self.inside.spots.items,
      c.sort_by_node.ensures.sorted,
      room_kept c.self.invariant.3 c.drop_storages.ensures.no_growth c.sort_by_node.ensures.no_growth,
    )

pub sort_by_node-requires : goal.sort_by_node-requires
sort_by_node-requires c =
    let sound = sound-kept _ _ c.self.inside.draining.map _ c.self.inside.storages.map _ c.args.node c.drop_storages.ensures.after refl c.self.invariant.0 in
    record { few = omega (arith, c.self.invariant.3.by_node, c.drop_storages.ensures.no_growth); small = sound.storage_ids }

pub forget_node-requires-clause-storages : goal.forget_node-requires-clause-storages
forget_node-requires-clause-storages c s i e here = none_left c.self.inside.storages.map _ c.args.node s i c.drop_storages.ensures.after e here

pub forget_node-requires-clause-draining : goal.forget_node-requires-clause-draining
forget_node-requires-clause-draining c = not_left c.self.inside.draining.map _ c.args.node (c.remove.ensures.after ∙ ap (remove c.self.inside.draining.map) (c.from.ensures ∙ c.node.view_is))

pub returns-clause-after : goal.returns-clause-after
unfolding without_node
returns-clause-after c =
    let limits = ap (λ t. t.cluster.limits) c.self.view_is in
    let nodes = ap (λ t. remove t.cluster.nodes c.args.node) c.self.view_is in
    let storages = c.drop_storages.ensures.after ∙ ap (λ t. keep t.cluster.storages (λ _ i. not (i.node == c.args.node))) c.self.view_is ∙ others_kept c.args.self.now.cluster c.args.node in
    let draining = c.remove.ensures.after ∙ ap (remove c.self.inside.draining.map) (c.from.ensures ∙ c.node.view_is) ∙ ap (λ t. remove t.cluster.draining c.args.node) c.self.view_is in
    c.forget_node.ensures.after ∙ (λ i. record { limits = limits i; nodes = nodes i; draining = draining i; storages = storages i })

pub returns-clause-kept : goal.returns-clause-kept
returns-clause-kept c =
    let fewer = len-keep-le c.self.inside.storages.map (λ _ i. not (i.node == c.args.node)) in
    let is = ap len c.drop_storages.ensures.after in
    let left = len-remove c.self.inside.draining.map c.from.result in
    let left_is = ap len c.remove.ensures.after in
    let without = seen_of c.self.inside.limits c.self.inside.nodes c.remove.new.self c.self.inside.racks c.drop_storages.new.storages in
    no_less-then c.args.self.now.spare without.spare c.forget_node.new.self.spare
    (no_less c.self.inside.nodes c.self.inside.nodes c.self.inside.racks c.self.inside.racks c.self.inside.draining c.remove.new.self c.self.inside.storages c.drop_storages.new.storages c.args.self.now c.self.view_is
    (record { nodes_same = refl; draining_same = c.remove.ensures.no_growth; racks_same = refl; storages_same = c.drop_storages.ensures.no_growth })
    (record { nodes_fewer = omega arith; draining_fewer = omega (arith, left, left_is); racks_fewer = omega arith; storages_fewer = omega (arith, fewer, is) }))
    c.forget_node.ensures.kept
