use Rattle.puljemrod.proofs.Lines.{answered, on_err_not_long}
use Rattle.puljemrod.proofs.handle_state.answer_line.Goals as goal

pub returns-clause-answered : goal.returns-clause-answered
returns-clause-answered c = answered _ _ _ _ c.in_ok-asked.ensures.asked c.in_ok-answer_asked.ensures.answered

pub returns-in_err-answer_asked-clause-not_long : goal.returns-in_err-answer_asked-clause-not_long
returns-in_err-answer_asked-clause-not_long c = on_err_not_long _ _ _ _ c.in_ok-asked.ensures.asked c.in_err-answer_asked.ensures.lacked
