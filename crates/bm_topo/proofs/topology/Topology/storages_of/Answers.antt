use Rattle.std.proofs.Common.{List, ℕ, length, filter, ap, arith, ◌∙◌}
use Rattle.bm_base.specs.Words.{has, keys, has_storage}
use Rattle.bm_topo.specs.Sound.{cluster_of}
use Rattle.bm_topo.proofs.ByNode.{own_storages, own_each, own_few}
use Rattle.bm_topo.proofs.SoundTables.{most_storages}
use Rattle.bm_topo.proofs.topology.Topology.storages_of.Goals as goal

pub returns-clause-storages : goal.returns-clause-storages
returns-clause-storages c =
    let C = cluster_of c.self.inside.limits c.self.inside.nodes.map c.self.inside.draining.map c.self.inside.storages.map in
    c.storages_of.ensures ∙ own_storages C c.args.node ∙ ap (λ t. filter (has_storage t.cluster c.args.node) (keys t.cluster.storages)) c.self.view_is

pub returns-clause-each : goal.returns-clause-each
returns-clause-each c s = ap (λ (xs : List ℕ). has xs s) (returns-clause-storages c) ∙ own_each c.args.self.now.cluster c.args.node s

pub returns-clause-few : goal.returns-clause-few
returns-clause-few c =
    let C = cluster_of c.self.inside.limits c.self.inside.nodes.map c.self.inside.draining.map c.self.inside.storages.map in
    let own = own_few C c.args.node in
    let same = ap length (c.storages_of.ensures ∙ own_storages C c.args.node) in
    let limits = ap (λ t. t.cluster.limits.storages) c.self.view_is in
    omega (arith, own, same, limits, c.self.invariant.0.lawful.few_storages)

pub returns-clause-fits : goal.returns-clause-fits
returns-clause-fits c =
    let limits = ap (λ t. t.cluster.limits.storages) c.self.view_is in
    omega (arith, returns-clause-few c, limits, most_storages c.self.inside.limits c.self.invariant.0.allowed)
