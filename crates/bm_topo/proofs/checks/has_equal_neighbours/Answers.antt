use Rattle.std.proofs.Common.{◌≡◌, ◌-◌, get_or, eqb, true, sym, ◌∙◌, arith}
use Rattle.std.proofs.lemmas.Bool.{eqb-true}
use Rattle.std.proofs.lemmas.List.{get_or_default}
use Rattle.bm_topo.proofs.Repeats.{no_repeats-ascending, repeats_from_alike}
use Rattle.bm_topo.proofs.checks.has_equal_neighbours.Goals as goal

pub returns-then-eq : goal.returns-then-eq
returns-then-eq c =
    let xs = c.args.ordered.now in
    let before = c.loop-later.later - 1 in
    let left = c.index-ordered-later.result in
    let right = c.index-ordered-later-in-loop-later.result in
    let test : eqb left right ≡ true = sym c.eq.ensures ∙ c.if-eq.true in
    let first : left ≡ get_or xs before 0 = c.index-ordered-later.is ∙ get_or_default xs before left 0 (omega arith) in
    let second : right ≡ get_or xs c.loop-later.later 0 = c.index-ordered-later-in-loop-later.is ∙ get_or_default xs c.loop-later.later right 0 c.loop-later-test.true in
    let alike : get_or xs before 0 ≡ get_or xs c.loop-later.later 0 = sym first ∙ eqb-true left right test ∙ second in
    sym (repeats_from_alike xs before c.loop-later.later 0 (omega arith) c.loop-later-test.true alike)

pub returns : goal.returns
returns c = sym (no_repeats-ascending c.args.ordered.now (λ k h. c.loop-later.invariant k (omega arith)))
