use Rattle.std.proofs.Common.{sym, ◌∙◌}
use Rattle.std.specs.Prelude.{nat_lt}
use Rattle.bm_base.specs.Maps.Map.{remove}
use Rattle.bm_topo.proofs.RackSpread.{is_multi-counted, is_multi-none}
use Rattle.bm_topo.proofs.OtherNodes.{other_rack_there, no_others}
use Rattle.bm_topo.proofs.topology.Topology.spans_racks_without.Goals as goal

pub returns-in-Some : goal.returns-in-Some
returns-in-Some c =
    let nodes = c.args.self.now.cluster.nodes in
    (λ i. nat_lt (c.others_on.ensures i) (c.others.ensures i))
    ∙ sym (is_multi-counted (remove nodes c.args.node) c.in-Some.rack (other_rack_there nodes c.args.node c.in-Some.rack (sym c.other_rack.ensures ∙ c.in-Some.is)))

pub returns-in-None : goal.returns-in-None
returns-in-None c = let nodes = c.args.self.now.cluster.nodes in sym (is_multi-none (remove nodes c.args.node) (no_others nodes c.args.node (sym c.other_rack.ensures ∙ c.in-None.is)))
