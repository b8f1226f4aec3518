use Rattle.std.proofs.Common.{◌<◌, ◌≤◌, arith, sym, ◌∙◌}
use Rattle.std.specs.Ordering.{nat_cmp}
use Rattle.std.specs.Cmp.{nat_cmp_total}
use Rattle.bm_maps.specs.KeyIndex.{key_index}
use Rattle.bm_maps.proofs.BinarySearch.{index_behind, index_before}
use Rattle.bm_maps.proofs.number_map.narrow.Goals as goal

pub returns-in-Greater : goal.returns-in-Greater
returns-in-Greater g c =
    let inside = c.requires.bounds.2 in
    let behind : c.args.at < key_index nat_cmp c.args.key c.args.entries.now =
    index_behind nat_cmp nat_cmp_total c.args.key c.args.entries.now c.args.at _ c.requires.sorted (omega (arith, inside, c.if-high-at.false)) (sym c.cmp.ensures ∙ c.in-Greater.is) in
    (omega (arith, behind), c.requires.bounds.1, inside)

pub returns-in_default : goal.returns-in_default
returns-in_default g c =
    let inside = c.requires.bounds.2 in
    let before : key_index nat_cmp c.args.key c.args.entries.now ≤ c.args.at =
    index_before nat_cmp nat_cmp_total c.args.key c.args.entries.now c.args.at _ (omega (arith, inside, c.if-high-at.false)) (λ e. c.in_default.not-Greater (c.cmp.ensures ∙ e)) in
    (c.requires.bounds.0, before, omega (arith, inside, c.if-high-at.false))
