use Rattle.std.proofs.Common.{ap, arith, decimal, length, length-append}
use Rattle.bm_lines.proofs.CanonicalLemmas.{free_space}
use Rattle.bm_lines.proofs.parser.canonical_remaining.remaining_then.Goals as goal

pub returns-clause-text : goal.returns-clause-text
returns-clause-text c =
    let storage = c.in_ok-storage in
    let remaining = c.in_ok-remaining in
    let behind = c.in_ok-behind in
    free_space c.args.bytes.now storage.rest.now remaining.rest.now behind.behind.now storage.storage remaining.remaining storage.ensures.text remaining.ensures.text behind.ensures.text

pub returns-clause-shorter : goal.returns-clause-shorter
returns-clause-shorter c =
    let storage = c.in_ok-storage in
    omega (arith, ap length storage.ensures.text, length-append (decimal storage.storage) storage.rest.now, c.in_ok-remaining.ensures.shorter, c.in_ok-behind.ensures.shorter)
