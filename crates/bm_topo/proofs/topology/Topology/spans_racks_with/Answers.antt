use Rattle.std.proofs.Common.{sym, ◌∙◌}
use Rattle.std.specs.Prelude.{nat_lt}
use Rattle.bm_base.specs.Maps.Map.{insert}
use Rattle.bm_topo.proofs.RackSpread.{is_multi-counted, one_more_both}
use Rattle.bm_topo.proofs.RackChanges.{on_rack-insert_there, len-insert_others}
use Rattle.bm_topo.proofs.OtherNodes.{inserted_there}
use Rattle.bm_topo.proofs.topology.Topology.spans_racks_with.Goals as goal

pub returns : goal.returns
returns c =
    let nodes = c.args.self.now.cluster.nodes in
    let there = inserted_there nodes c.args.node c.args.rack in
    (λ i. nat_lt (c.others_on.ensures i) (c.others.ensures i)) ∙ sym (one_more_both _ _) ∙ (λ i. nat_lt (sym (on_rack-insert_there nodes c.args.node c.args.rack) i) (sym (len-insert_others nodes c.args.node c.args.rack) i))
    ∙ sym (is_multi-counted (insert nodes c.args.node c.args.rack) c.args.rack there)
