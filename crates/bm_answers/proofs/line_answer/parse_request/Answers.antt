use Rattle.std.proofs.Common.{◌∙◌, ap, arith}
use Rattle.bm_answers.specs.OneLine.{asked_by}
use Rattle.bm_answers.proofs.AskedLemmas.{asked-long, asked-short, on_err_not_long}
use Rattle.bm_answers.proofs.line_answer.parse_request.Goals as goal

pub returns-then-line-gt-MAX_LINE-clause-asked : goal.returns-then-line-gt-MAX_LINE-clause-asked
returns-then-line-gt-MAX_LINE-clause-asked c = asked-long _ (omega (arith, c.if-line-gt-MAX_LINE.true))

pub returns-in-Some-clause-asked : goal.returns-in-Some-clause-asked
returns-in-Some-clause-asked c = ap asked_by (rw c.in-Some.is at c.in_ok-call.ensures.call) ∙ asked-short _ (omega (arith, c.if-line-gt-MAX_LINE.false))

pub returns-in-None-clause-asked : goal.returns-in-None-clause-asked
returns-in-None-clause-asked c = ap asked_by (rw c.in-None.is at c.in_ok-call.ensures.call) ∙ asked-short _ (omega (arith, c.if-line-gt-MAX_LINE.false))

pub returns-in_err-call-clause-not_long : goal.returns-in_err-call-clause-not_long
returns-in_err-call-clause-not_long c = on_err_not_long _ _ (omega (arith, c.if-line-gt-MAX_LINE.false))
