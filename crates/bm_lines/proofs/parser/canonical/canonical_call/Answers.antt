use Rattle.std.proofs.lemmas.Result.{IfOk-weaker}
use Rattle.bm_lines.specs.Parser.Canonical.{op_text}
use Rattle.bm_lines.proofs.CanonicalLemmas.{asked_line}
use Rattle.bm_lines.proofs.parser.canonical.canonical_call.Goals as goal

pub returns-in-Some-op_then-clause-text : goal.returns-in-Some-op_then-clause-text
returns-in-Some-op_then-clause-text c =
    let op = c.in-Some-op_then.op in
    IfOk-weaker c.call_with.result _ _ (λ o. asked_line _ _ c.in-Some-op_then.fields.now (op_text op) o c.in-Some.ensures.text c.in-Some-op_then.ensures) c.call_with.ensures
