use Rattle.std.proofs.Common.{codes, refl}
use Rattle.bm_base.specs.declared.event.Event.TheVariants.{SetReplication}
use Rattle.bm_base.specs.declared.call.Call.TheVariants.{Apply}
use Rattle.bm_lines.specs.CallText.{number_text}
use Rattle.bm_lines.proofs.CanonicalLemmas.{at_end, two_fields}
use Rattle.bm_lines.proofs.parser.canonical.set_replication.Goals as goal

pub returns : goal.returns
returns c =
    let id = c.in_ok-id in
    let repl = c.in_ok-repl in
    at_end c.is_end.result (codes "set_replication") c.args.fields.now repl.fields.now (Apply (SetReplication id.id repl.repl)) c.then_some.result c.then_some.ensures c.is_end.ensures (λ end. record {
      named = refl;
      same = two_fields c.args.fields.now id.fields.now repl.fields.now (codes "}") (number_text (codes "id") id.id) (number_text (codes "repl") repl.repl)
          id.ensures.text repl.ensures.text end;
      fits = (id.ensures.fits, repl.ensures.fits);
      some = refl;
    })
