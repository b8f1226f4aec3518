use Rattle.std.proofs.Common.{Some, sym, ap, ◌∙◌}
use Rattle.bm_answers.specs.OneLine.{number_of}
use Rattle.puljemrod.proofs.handle_state.answer_asked.Goals as goal

pub returns-clause-answered : goal.returns-clause-answered
returns-clause-answered c = record {
  state = c.in_ok-answer.ensures.next;
  number = c.number-kept.ensures ∙ ap number_of c.in_ok-answer.ensures.answer;
  answer = c.replace-before.ensures.after ∙ ap Some c.in_ok-answer.ensures.answer;
  no_text = c.new.ensures.items;
  no_memory = λ e. c.in_ok-answer.ensures.memory (sym c.number-kept.ensures ∙ e);
}
