use Rattle.bm_answers.proofs.line_answer.LineAnswer.number.Goals as goal

pub returns-in-Answered : goal.returns-in-Answered
returns-in-Answered c = rw c.in-Answered.is (c.number.ensures c.in-Answered.field-0)
