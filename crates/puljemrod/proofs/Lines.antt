-- A line has the answer of its request, and a line that is too long never runs out of memory.
use Rattle.std.proofs.Common.{◌≡◌, ℕ, List, IsTrue, Result, Ok, Err, ap, ◌∙◌}
use Rattle.std.specs.Prelude.{OnErr}
use Rattle.bm_base.specs.Machine.State.{State}
use Rattle.bm_answers.specs.declared.line_answer.Request.{Request}
use Rattle.bm_answers.specs.declared.line_answer.Request.TheVariants.{Long}
use Rattle.bm_answers.specs.OneLine.{asked, answer_to, asked_next, asked_may_lack, text_of, number_of, line_text, line_next, line_number}
use Rattle.puljemrod.specs.declared.handle_state.HandleState.{HandleState}
use Rattle.puljemrod.specs.Calls.{text_with, IsAsked, IsAnswered}

pub answered : (M : State) (line : List ℕ) (a : Request) (k : HandleState) → a ≡ asked line → IsAsked M a k → IsAnswered M line k
unfolding line_text line_next line_number
answered M line a k e p = record {
  state = p.state ∙ ap (asked_next M) e;
  number = p.number ∙ ap (λ x. number_of (answer_to M x)) e;
  text = ap (λ o. text_with o k.text.items) p.answer ∙ ap (λ x. text_of (answer_to M x)) e;
  no_memory = p.no_memory;
}

-- memory is refused for no line that is too long
not_long : (M : State) (line : List ℕ) (a : Request) → a ≡ asked line → IsTrue (asked_may_lack M a) → asked line ≡ Long → ⊥
not_long M line a e may is = absurd (cc (may, ap (asked_may_lack M) (e ∙ is)))

pub on_err_not_long : {T E : Type 0} (r : Result T E) (M : State) (line : List ℕ) (a : Request) → a ≡ asked line → IsTrue (asked_may_lack M a) → OnErr r (asked line ≡ Long → ⊥)
on_err_not_long (Ok x) M line a e may = tt
on_err_not_long (Err x) M line a e may = not_long M line a e may
