use Rattle.std.proofs.Common.{arith}
use Rattle.bm_maps.proofs.DenseNumbers.{upto_read, from_read, past_read, before_read}
use Rattle.bm_maps.proofs.number_map.index_of_number.Goals as goal

pub returns-then-key-last : goal.returns-then-key-last
returns-then-key-last g c =
    past_read c.args.key c.args.entries.now _ c.index-entries-count.result c.requires (omega (arith, c.if-count-eq0.false)) c.if-key-last.true

pub narrow_bounds-low-requires-clause-bounds : goal.narrow_bounds-low-requires-clause-bounds
narrow_bounds-low-requires-clause-bounds g c =
    let from = from_read c.args.key c.args.entries.now _ c.index-entries-count.result c.requires (omega (arith, c.if-count-eq0.false)) c.if-key-last.false in
    let upto = upto_read c.args.key c.args.entries.now c.index-entries-0.result c.requires (omega (arith, c.if-count-eq0.false)) in
    let before = before_read c.args.key c.args.entries.now _ c.index-entries-count.result (omega (arith, c.if-count-eq0.false)) c.if-key-last.false in
    let high = c.greatest_index-high.ensures in
    (omega (arith, from, c.least_index-low.ensures), omega (arith, upto, before, high.greater, high.within), omega (arith, high.within))
