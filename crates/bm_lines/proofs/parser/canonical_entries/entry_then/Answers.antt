use Rattle.bm_lines.proofs.CanonicalLemmas.{one_block, run_of_blocks}
use Rattle.bm_lines.proofs.parser.canonical_entries.entry_then.Goals as goal

pub returns-in-Some-clause-text : goal.returns-in-Some-clause-text
returns-in-Some-clause-text c =
    let entry = c.entry_of.ensures in
    one_block c.args.bytes.now c.in_ok-from.rest.now c.in_ok-second.rest.now c.in_ok-third.rest.now c.in-Some.behind.now c.in_ok-from.from c.in_ok-second.second c.in_ok-third.third c.entry_of.result
    c.in_ok-from.ensures.text c.in_ok-second.ensures.text c.in_ok-third.ensures.text c.in-Some.ensures.text entry.from entry.to entry.generation entry.len

pub returns-clause-text : goal.returns-clause-text
returns-clause-text c =
    let entry = c.entry_of-2.ensures in
    run_of_blocks c.args.bytes.now c.in_ok-from.rest.now c.in_ok-second.rest.now c.in_ok-third.rest.now c.in_ok-len.rest.now c.in_ok-behind.behind.now
    c.in_ok-from.from c.in_ok-second.second c.in_ok-third.third c.in_ok-len.len c.entry_of-2.result
    c.in_ok-from.ensures.text c.in_ok-second.ensures.text c.in_ok-third.ensures.text c.in_ok-len.ensures.text c.in_ok-behind.ensures.text c.if-from-second.false
    entry.from entry.to entry.generation entry.len
