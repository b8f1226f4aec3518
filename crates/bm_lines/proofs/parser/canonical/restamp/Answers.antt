use Rattle.std.proofs.Common.{codes, refl}
use Rattle.bm_base.specs.declared.event.Event.TheVariants.{Restamp}
use Rattle.bm_base.specs.declared.call.Call.TheVariants.{Apply}
use Rattle.bm_lines.specs.CallText.{number_text, stamp_text}
use Rattle.bm_lines.proofs.CanonicalLemmas.{at_end, two_fields}
use Rattle.bm_lines.proofs.parser.canonical.restamp.Goals as goal

pub returns : goal.returns
returns c =
    let id = c.in_ok-id in
    let stamp = c.in-Some in
    at_end c.is_end.result (codes "restamp") c.args.fields.now stamp.fields.now (Apply (Restamp id.id stamp.stamp)) c.then_some.result c.then_some.ensures c.is_end.ensures (λ end. record {
      named = refl;
      same = two_fields c.args.fields.now id.fields.now stamp.fields.now (codes "}") (number_text (codes "id") id.id) (stamp_text stamp.stamp)
          id.ensures.text stamp.ensures.text end;
      fits = (id.ensures.fits, stamp.ensures.fits);
      some = refl;
    })
