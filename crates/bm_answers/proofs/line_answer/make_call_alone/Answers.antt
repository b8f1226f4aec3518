use Rattle.std.proofs.lemmas.Result.{on_err_weaker}
use Rattle.bm_answers.proofs.NoMemory.{lacked}
use Rattle.bm_answers.proofs.line_answer.make_call_alone.Goals as goal

pub returns-in-Asks-clause-lacked : goal.returns-in-Asks-clause-lacked
returns-in-Asks-clause-lacked c = rw c.in-Asks.is (on_err_weaker c.answered.result (lacked _ _ _ c.answer_alone-answer.ensures.answer) c.answered.ensures.refused)
