use Rattle.std.proofs.Common.{◌∙◌, ap, sym}
use Rattle.bm_lines.specs.Parser.CallOf.{call_of}
use Rattle.bm_lines.proofs.CallTextBack.{call_of-line_text}
use Rattle.bm_lines.proofs.parser.call.call_of.Goals as goal

pub returns-in-Some-clause-call : goal.returns-in-Some-clause-call
returns-in-Some-clause-call c =
    let text = rw c.in-Some.is at c.in_ok-call.ensures.text in
    let fits = rw c.in-Some.is at c.in_ok-call.ensures.fits in
    let some = rw c.in-Some.is at c.in_ok-call.ensures.has_op in
    sym (ap call_of text ∙ call_of-line_text c.in-Some.call some fits)
