use Rattle.std.proofs.Common.{arith}
use Rattle.bm_lines.proofs.CanonicalLemmas.{digits_step, value_step}
use Rattle.bm_lines.proofs.parser.canonical_numbers.digits.Goals as goal

pub loop-count-preserved : goal.loop-count-preserved
loop-count-preserved c =
    let least = c.if-byte-lt48.false in
    let most = c.if-byte-gt57.false in
    let times = c.in_ok-checked_mul.ensures in
    let plus = c.in_ok-number.ensures in
    record {
      within = omega arith;
      digits = digits_step c.args.bytes.now c.loop-count.count c.loop-count-test.true c.loop-count.invariant.digits least most;
      value = omega (arith, value_step c.args.bytes.now c.loop-count.count c.loop-count-test.true least most);
      fits = omega arith;
    }
