use Rattle.std.proofs.Common.{◌≡◌, ℕ, List, ◌∙◌, ap}
use Rattle.std.proofs.lemmas.Result.{IfOk-weaker}
use Rattle.bm_lines.specs.LineBuffer.{Holds}
use Rattle.bm_answers.specs.OneLine.{asked}
use Rattle.bm_answers.specs.declared.line_answer.Request.{Request}
use Rattle.bm_answers.proofs.AskedLemmas.{asked-long}
use Rattle.bm_answers.proofs.line_answer.parse_held_line.Goals as goal

pub returns-then-line : goal.returns-then-line
returns-then-line c = λ rest held. asked-long rest (rw c.if-line.true at held)

pub returns : goal.returns
returns c =
    IfOk-weaker _ (λ (a : Request). a ≡ asked c.as_slice.result.now) (λ (a : Request). (rest : List ℕ) → Holds c.args.line.now rest → a ≡ asked rest)
    (λ a e rest held. let known = rw c.if-line.false at held in e ∙ ap asked (c.as_slice.ensures.value ∙ known.0)) c.parse_request.ensures.asked
