use Rattle.std.proofs.Common.{codes, refl}
use Rattle.bm_base.specs.declared.event.Event.TheVariants.{Corrupt}
use Rattle.bm_base.specs.declared.call.Call.TheVariants.{Apply}
use Rattle.bm_lines.specs.CallText.{number_text}
use Rattle.bm_lines.proofs.CanonicalLemmas.{at_end, two_fields}
use Rattle.bm_lines.proofs.parser.canonical.corrupt.Goals as goal

pub returns : goal.returns
returns c =
    let storage = c.in_ok-storage in
    let id = c.in_ok-id in
    at_end c.is_end.result (codes "corrupt") c.args.fields.now id.fields.now (Apply (Corrupt storage.storage id.id)) c.then_some.result c.then_some.ensures c.is_end.ensures (λ end. record {
      named = refl;
      same = two_fields c.args.fields.now storage.fields.now id.fields.now (codes "}") (number_text (codes "storage") storage.storage) (number_text (codes "id") id.id)
          storage.ensures.text id.ensures.text end;
      fits = (storage.ensures.fits, id.ensures.fits);
      some = refl;
    })
