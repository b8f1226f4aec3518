use Rattle.std.proofs.Common.{codes, refl}
use Rattle.bm_lines.specs.CallText.{number_text, list_text, entry_text}
use Rattle.bm_lines.proofs.CanonicalLemmas.{two_fields}
use Rattle.bm_lines.proofs.parser.canonical.report.Goals as goal

pub returns : goal.returns
returns c =
    let storage = c.in-Some in
    let read = c.in-Some-2 in
    let text = rw read.is at c.in_ok-entries.ensures.text in
    let fits = rw read.is at c.in_ok-entries.ensures.fits in
    rw c.from_vec.ensures (record {
      named = refl;
      same = two_fields c.args.fields.now storage.fields.now read.end.now (codes "}") (number_text (codes "storage") storage.storage) (list_text (codes "blocks") entry_text read.entries.items)
          storage.ensures.text text (c.is_end.ensures c.if-not-is_end.false);
      fits = (storage.ensures.fits, fits);
      some = refl;
    })
