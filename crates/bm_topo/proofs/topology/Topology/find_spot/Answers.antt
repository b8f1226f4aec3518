use Rattle.std.proofs.Common.{◌≡◌, None, subst, sym, ap, ◌∙◌}
use Rattle.bm_base.specs.Words.{get, contains_key, node_of, rack_of, is_draining}
use Rattle.bm_topo.specs.Spots.{IsSpot}
use Rattle.bm_topo.proofs.SpotTable.{spot_is, spot_none}
use Rattle.bm_topo.proofs.topology.Topology.find_spot.Goals as goal

here : (c : goal.After-spot_on) → IsSpot c.args.self.now.cluster c.spot_on.result
here c =
    let is = c.spot_on.ensures in
    let at = ap (get c.self.inside.storages.map) (is.storage ∙ sym (c.from.ensures ∙ c.storage.view_is)) ∙ sym c.get.ensures ∙ c.in-Some.is in
    let rack = ap (get c.self.inside.nodes.map) is.node ∙ is.rack in
    subst (λ t. IsSpot t.cluster c.spot_on.result) c.self.view_is
    (spot_is c.self.inside.nodes.map c.self.inside.draining.map c.self.inside.storages.map c.spot_on.result c.in-Some.info at is.node rack
    (is.drains ∙ ap (λ n. contains_key c.self.inside.draining.map n) (sym is.node)))

pub returns-in-Some-clause-node : goal.returns-in-Some-clause-node
returns-in-Some-clause-node c = sym (here c).node ∙ ap (node_of c.args.self.now.cluster) c.spot_on.ensures.storage

pub returns-in-Some-clause-rack : goal.returns-in-Some-clause-rack
returns-in-Some-clause-rack c = sym (here c).rack ∙ ap (rack_of c.args.self.now.cluster) c.spot_on.ensures.storage

pub returns-in-Some-clause-drains : goal.returns-in-Some-clause-drains
returns-in-Some-clause-drains c = (here c).drains ∙ ap (is_draining c.args.self.now.cluster) c.spot_on.ensures.storage

absent : (c : goal.In-None) → get c.args.self.now.cluster.storages c.args.storage ≡ None
absent c = ap (λ t. get t.cluster.storages c.args.storage) (sym c.self.view_is) ∙ ap (get c.self.inside.storages.map) (sym (c.from.ensures ∙ c.storage.view_is)) ∙ sym c.get.ensures ∙ c.in-None.is

pub returns-in-None-clause-node : goal.returns-in-None-clause-node
returns-in-None-clause-node c = sym (spot_none c.args.self.now.cluster c.args.storage (absent c)).0

pub returns-in-None-clause-rack : goal.returns-in-None-clause-rack
returns-in-None-clause-rack c = sym (spot_none c.args.self.now.cluster c.args.storage (absent c)).1

pub returns-in-None-clause-drains : goal.returns-in-None-clause-drains
returns-in-None-clause-drains c = sym (spot_none c.args.self.now.cluster c.args.storage (absent c)).2
