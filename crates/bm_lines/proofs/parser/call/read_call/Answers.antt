use Rattle.std.proofs.Common.{refl}
use Rattle.std.proofs.lemmas.Result.{IfOk-weaker}
use Rattle.serde_json.specs.View.{view}
use Rattle.bm_lines.specs.Parser.CallOf.{call_of}
use Rattle.bm_lines.proofs.ReadOps.{read_has_op}
use Rattle.bm_lines.proofs.parser.call.read_call.Goals as goal

pub returns-in-Some-clause-call : goal.returns-in-Some-clause-call
unfolding call_of
returns-in-Some-clause-call c = let e = rw c.in-Some.is at c.in_ok-value.ensures in rw (← e) c.call_of_value.ensures

pub returns-in-Some-clause-has_op : goal.returns-in-Some-clause-has_op
returns-in-Some-clause-has_op c = IfOk-weaker c.call_of_value.result _ _ (read_has_op (view c.in-Some.value)) c.call_of_value.ensures

pub returns-in-None-clause-call : goal.returns-in-None-clause-call
unfolding call_of
returns-in-None-clause-call c = let e = rw c.in-None.is at c.in_ok-value.ensures in rw (← e) refl
