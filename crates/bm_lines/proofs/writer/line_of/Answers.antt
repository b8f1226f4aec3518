use Rattle.std.proofs.Common.{◌∙◌, ap, sym, subst}
use Rattle.bm_lines.specs.Lines.{IsPart}
use Rattle.bm_lines.specs.Parser.CallOf.{call_of}
use Rattle.bm_lines.proofs.CallTextBack.{call_of-line_text, IsPart-line_text}
use Rattle.bm_lines.proofs.writer.line_of.Goals as goal

pub returns-clause-asks : goal.returns-clause-asks
returns-clause-asks c = ap call_of c.in_ok-line.ensures.text ∙ call_of-line_text c.args.call.now c.requires c.in_ok-line.ensures.fits

pub returns-clause-one_line : goal.returns-clause-one_line
returns-clause-one_line c = subst IsPart (sym c.in_ok-line.ensures.text) (IsPart-line_text c.args.call.now c.in_ok-line.ensures.fits)
