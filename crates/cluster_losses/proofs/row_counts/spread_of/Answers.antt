use Rattle.std.proofs.Common.{◌≡◌, ◌≤◌, ℕ, List, length, [], drop, drop_of_length-le, ap, sym, ◌∙◌, arith}
use Rattle.std.specs.Int.{from_bool}
use Rattle.bm_base.specs.Spread.{spread_after}
use Rattle.bm_base.proofs.Distinct.{spread_end}
use Rattle.cluster_losses.proofs.row_counts.spread_of.Goals as goal

pub returns : goal.returns
returns c =
    let rs = c.args.racks.now in
    let past : length rs ≤ c.loop-rack.rack-index = omega arith in
    let none : drop c.loop-rack.rack-index rs ≡ [] = drop_of_length-le _ past in
    c.from.ensures ∙ ap from_bool c.is_some.ensures ∙ spread_end c.loop-rack.first ∙ ap (λ (xs : List ℕ). spread_after c.loop-rack.first xs) (sym none) ∙ c.loop-rack.invariant
