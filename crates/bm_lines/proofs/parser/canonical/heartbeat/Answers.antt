use Rattle.std.proofs.Common.{codes, refl}
use Rattle.bm_lines.specs.CallText.{number_text, list_text, remaining_text}
use Rattle.bm_lines.proofs.CanonicalLemmas.{two_fields}
use Rattle.bm_lines.proofs.parser.canonical.heartbeat.Goals as goal

pub returns : goal.returns
returns c =
    let node = c.in-Some in
    let read = c.in-Some-2 in
    let text = rw read.is at c.in_ok-remaining.ensures.text in
    let fits = rw read.is at c.in_ok-remaining.ensures.fits in
    rw c.from_vec.ensures (record {
      named = refl;
      same = two_fields c.args.fields.now node.fields.now read.end.now (codes "}") (number_text (codes "node") node.node) (list_text (codes "remaining") remaining_text read.remaining.items)
          node.ensures.text text (c.is_end.ensures c.if-not-is_end.false);
      fits = (node.ensures.fits, fits);
      some = refl;
    })
