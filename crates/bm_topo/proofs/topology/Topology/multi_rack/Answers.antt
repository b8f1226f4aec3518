use Rattle.std.proofs.Common.{ap, ◌∙◌}
use Rattle.std.specs.Prelude.{nat_lt, length}
use Rattle.bm_base.specs.Words.{distinct, is_multi_rack}
use Rattle.bm_topo.specs.Racks.{racks_of}
use Rattle.bm_topo.proofs.RackCount.{racks_counted}
use Rattle.bm_topo.proofs.topology.Topology.multi_rack.Goals as goal

pub returns : goal.returns
unfolding is_multi_rack
returns c =
    ap (nat_lt 1) (c.len.ensures ∙ racks_counted c.self.inside.racks.map c.self.inside.nodes.map c.self.invariant.0.counted)
    ∙ ap (λ t. nat_lt 1 (length (distinct (racks_of t.cluster.nodes)))) c.self.view_is
