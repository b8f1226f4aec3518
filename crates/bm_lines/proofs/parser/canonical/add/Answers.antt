use Rattle.std.proofs.Common.{codes, refl}
use Rattle.bm_base.specs.declared.event.Event.TheVariants.{AddBlock}
use Rattle.bm_base.specs.declared.call.Call.TheVariants.{Apply}
use Rattle.bm_lines.specs.CallText.{number_text, stamp_text}
use Rattle.bm_lines.proofs.CanonicalLemmas.{at_end, three_fields}
use Rattle.bm_lines.proofs.parser.canonical.add.Goals as goal

pub returns : goal.returns
returns c =
    let id = c.in_ok-id in
    let stamp = c.in-Some in
    let repl = c.in_ok-repl in
    at_end c.is_end.result (codes "add") c.args.fields.now repl.fields.now (Apply (AddBlock id.id stamp.stamp repl.repl)) c.then_some.result c.then_some.ensures c.is_end.ensures (λ end. record {
      named = refl;
      same = three_fields c.args.fields.now id.fields.now stamp.fields.now repl.fields.now (codes "}") (number_text (codes "id") id.id) (stamp_text stamp.stamp) (number_text (codes "repl") repl.repl)
          id.ensures.text stamp.ensures.text repl.ensures.text end;
      fits = (id.ensures.fits, stamp.ensures.fits, repl.ensures.fits);
      some = refl;
    })
