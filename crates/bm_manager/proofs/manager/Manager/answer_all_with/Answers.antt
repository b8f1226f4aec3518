use Rattle.std.proofs.Common.{◌≡◌, ◌≤◌, length, [], ◌++◌, ap, sym, subst, ◌∙◌, append-nil, drop, drop_of_length-le, arith}
use Rattle.bm_base.specs.Words.{MayAnswerAll, state_after_answers}
use Rattle.bm_manager.proofs.manager.Manager.answer_all_with.Given.{Over}
use Rattle.bm_manager.proofs.manager.Manager.answer_all_with.Goals as goal

-- the answers that are given are those so far
given : (g : Over) (c : goal.After-from_vec g) → c.loop-call.answers.items ++ [] ≡ c.from_vec.result
given g c = append-nil c.loop-call.answers.items ∙ sym c.from_vec.ensures

pub returns-clause-answers : goal.returns-clause-answers
returns-clause-answers g c =
    let past : length c.args.calls.now ≤ c.loop-call.call-index = omega arith in
    let none : drop c.loop-call.call-index c.args.calls.now ≡ [] = drop_of_length-le _ past in
    subst (λ rest. MayAnswerAll c.args.self.now c.args.calls.now rest) (given g c)
    (c.loop-call.invariant.may [] (subst (λ ks. MayAnswerAll c.loop-call.self ks []) (sym none) tt))

pub returns-clause-state : goal.returns-clause-state
returns-clause-state g c =
    let past : length c.args.calls.now ≤ c.loop-call.call-index = omega arith in
    let none : drop c.loop-call.call-index c.args.calls.now ≡ [] = drop_of_length-le _ past in
    ap (λ ks. state_after_answers c.loop-call.self ks []) (sym none)
    ∙ c.loop-call.invariant.state [] (subst (λ ks. MayAnswerAll c.loop-call.self ks []) (sym none) tt)
    ∙ ap (λ rest. state_after_answers c.args.self.now c.args.calls.now rest) (given g c)
