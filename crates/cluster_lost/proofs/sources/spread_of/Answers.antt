use Rattle.std.proofs.Common.{◌≡◌, ◌≤◌, List, length, [], drop, drop_of_length-le, ap, sym, ◌∙◌, arith}
use Rattle.std.specs.Int.{from_bool}
use Rattle.bm_base.specs.Spread.{spread_after}
use Rattle.bm_base.proofs.Distinct.{spread_end}
use Rattle.cluster_lost.specs.Sources.{racks_by}
use Rattle.cluster_lost.specs.declared.sources.Source.{Source}
use Rattle.cluster_lost.proofs.sources.spread_of.Goals as goal

pub returns : goal.returns
returns c =
    let us = c.args.sources.now in
    let past : length us ≤ c.loop-source.source-index = omega arith in
    let none : drop c.loop-source.source-index us ≡ [] = drop_of_length-le _ past in
    c.from.ensures ∙ ap from_bool c.is_some.ensures ∙ spread_end c.loop-source.first ∙ ap (λ (xs : List Source). spread_after c.loop-source.first (racks_by xs)) (sym none) ∙ c.loop-source.invariant
