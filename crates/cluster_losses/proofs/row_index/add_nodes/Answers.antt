use Rattle.std.proofs.Common.{◌≡◌, ◌∙◌, ◌+◌, ◌||◌, Bool, true, false, cond, ℕ, Option, Some, take, take_all, refl, sym, ap, arith}
use Rattle.std.specs.Prelude.{◌==◌}
use Rattle.std.proofs.lemmas.List.Folds.{list_any_more}
use Rattle.bm_base.specs.Maps.Map.{get, insert}
use Rattle.bm_base.proofs.MapLaws.{get-insert}
use Rattle.bm_base.proofs.Ties.{number_tie}
use Rattle.cluster_lost.specs.Deaths.{is_among}
use Rattle.cluster_losses.proofs.row_index.add_nodes.Goals as goal

either : (x y : Bool) (o : Option ℕ) (k : ℕ) → cond y (Some k) (cond x (Some k) o) ≡ cond (x || y) (Some k) o
either true true o k = refl
either true false o k = refl
either false y o k = refl

pub loop-node-preserved : goal.loop-node-preserved
loop-node-preserved c = λ n.
    let i = c.loop-node.node-index in
    let nodes = c.args.nodes.now in
    let x = c.node-item.result in
    ap (λ m. get m n) (c.in_ok-insert.ensures.ok ∙ ap (λ k. insert c.loop-node.rows.map k c.args.row) c.number_of.ensures)
    ∙ get-insert c.loop-node.rows.map x c.args.row n
    ∙ (λ j. cond (number_tie n x j) (Some c.args.row) (c.loop-node.invariant n j))
    ∙ either (is_among (take i nodes) n) (n == x) (get c.args.rows.now.map n) c.args.row
    ∙ ap (λ b. cond b (Some c.args.row) (get c.args.rows.now.map n)) (sym (list_any_more (λ m. n == m) nodes i x c.loop-node-test.true ∙ ap (λ m. is_among (take i nodes) n || (n == m)) (sym c.node-item.is)))

pub returns : goal.returns
returns c = λ n. c.loop-node.invariant n ∙ ap (λ ns. cond (is_among ns n) (Some c.args.row) (get c.args.rows.now.map n)) (take_all c.loop-node.node-index c.args.nodes.now (omega (arith, c.loop-node-test.false)))
