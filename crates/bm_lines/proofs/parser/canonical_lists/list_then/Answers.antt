use Rattle.std.proofs.Common.{codes}
use Rattle.bm_lines.specs.CallText.{list_text, with_commas}
use Rattle.bm_lines.proofs.CanonicalLemmas.{in_list}
use Rattle.bm_lines.proofs.parser.canonical_lists.list_then.Goals as goal

pub returns-clause-text : goal.returns-clause-text
unfolding list_text
returns-clause-text g c =
    let known = rw c.in-Some-2.is at c.in_ok-items.ensures.text in
    in_list c.args.fields.now c.args.name.now c.in-Some.list.now (with_commas g.T.CanonicalItem.written c.in-Some-2.items.items) c.in-Some-2.rest.now c.in-Some-after.end.now
    (codes ",\"") (codes "\":[") (codes "]") c.in-Some.ensures known c.in-Some-after.ensures.text
