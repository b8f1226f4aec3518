use Rattle.std.proofs.Common.{◌≡◌, ℕ, cond, arith, ap, sym, ◌∙◌}
use Rattle.std.specs.Prelude.{◌==◌}
use Rattle.bm_topo.specs.Racks.{on_rack}
use Rattle.bm_topo.proofs.RackChanges.{on_rack-remove_there, remove_absent}
use Rattle.bm_topo.proofs.topology.Topology.others_on.Goals as goal

pub overflow_sub-result : goal.overflow_sub-result
overflow_sub-result c =
    let there = on_rack-remove_there c.args.self.now.cluster.nodes c.args.node c.in-Some.its_rack c.args.rack (sym c.rack_of_node.ensures ∙ c.in-Some.is) in
    let here : ◌≡◌ {A = ℕ} (cond (c.in-Some.its_rack == c.args.rack) 1 0) 1 = ap (λ b. cond b 1 0) (sym c.eq.ensures ∙ c.if-eq.true) in
    omega (arith, there, here, c.count_on-count.ensures)

pub returns-then-eq : goal.returns-then-eq
returns-then-eq c =
    let there = on_rack-remove_there c.args.self.now.cluster.nodes c.args.node c.in-Some.its_rack c.args.rack (sym c.rack_of_node.ensures ∙ c.in-Some.is) in
    let here : ◌≡◌ {A = ℕ} (cond (c.in-Some.its_rack == c.args.rack) 1 0) 1 = ap (λ b. cond b 1 0) (sym c.eq.ensures ∙ c.if-eq.true) in
    omega (arith, there, here, c.count_on-count.ensures)

pub returns-else-eq : goal.returns-else-eq
returns-else-eq c =
    let there = on_rack-remove_there c.args.self.now.cluster.nodes c.args.node c.in-Some.its_rack c.args.rack (sym c.rack_of_node.ensures ∙ c.in-Some.is) in
    let here : ◌≡◌ {A = ℕ} (cond (c.in-Some.its_rack == c.args.rack) 1 0) 0 = ap (λ b. cond b 1 0) (sym c.eq.ensures ∙ c.if-eq.false) in
    omega (arith, there, here, c.count_on-count.ensures)

pub returns-in-None : goal.returns-in-None
returns-in-None c = c.count_on-count.ensures ∙ ap (λ m. on_rack m c.args.rack) (sym (remove_absent c.args.self.now.cluster.nodes c.args.node (sym c.rack_of_node.ensures ∙ c.in-None.is)))
