use Rattle.std.proofs.Common.{codes, refl}
use Rattle.bm_base.specs.declared.event.Event.TheVariants.{Received}
use Rattle.bm_base.specs.declared.call.Call.TheVariants.{Apply}
use Rattle.bm_lines.specs.CallText.{number_text, stamp_text}
use Rattle.bm_lines.proofs.CanonicalLemmas.{at_end, three_fields}
use Rattle.bm_lines.proofs.parser.canonical.read_received.Goals as goal

pub returns : goal.returns
returns c =
    let storage = c.in_ok-storage in
    let id = c.in_ok-id in
    let stamp = c.in-Some in
    at_end c.is_end.result (codes "received") c.args.fields.now stamp.fields.now (Apply (Received storage.storage id.id stamp.stamp)) c.then_some.result c.then_some.ensures c.is_end.ensures (λ end. record {
      named = refl;
      same = three_fields c.args.fields.now storage.fields.now id.fields.now stamp.fields.now (codes "}") (number_text (codes "storage") storage.storage) (number_text (codes "id") id.id) (stamp_text stamp.stamp)
          storage.ensures.text id.ensures.text stamp.ensures.text end;
      fits = (storage.ensures.fits, id.ensures.fits, stamp.ensures.fits);
      some = refl;
    })
