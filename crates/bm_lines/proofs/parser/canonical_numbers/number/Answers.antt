use Rattle.std.proofs.Common.{arith}
use Rattle.bm_lines.proofs.CanonicalLemmas.{as_written}
use Rattle.bm_lines.proofs.parser.canonical_numbers.number.Goals as goal

pub returns-then-bytes-ne48-clause-text : goal.returns-then-bytes-ne48-clause-text
returns-then-bytes-ne48-clause-text c =
    let known = c.in_ok-number.ensures in
    as_written c.args.bytes.now c.in_ok-number.count c.in_ok-number.number known.value known.digits known.within known.fits c.if-count-eq0.false (λ zero. absurd (c.if-bytes-ne48.true zero))

pub returns-clause-text : goal.returns-clause-text
returns-clause-text c =
    let known = c.in_ok-number.ensures in
    as_written c.args.bytes.now c.in_ok-number.count c.in_ok-number.number known.value known.digits known.within known.fits c.if-count-eq0.false (λ zero. omega arith)
