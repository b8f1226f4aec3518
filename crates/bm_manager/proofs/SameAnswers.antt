-- Two lists of answers to the same calls are equal up to the first out-of-memory answer in either.
use Rattle.std.proofs.Common.{◌≡◌, Bool, true, false, List, [], ◌∷◌, refl, sym, ap, subst, ◌∙◌, inl, inr}
use Rattle.std.specs.Prelude.{◌||◌, if◌then◌else◌}
use Rattle.bm_base.specs.declared.call.Call.{Call}
use Rattle.bm_base.specs.declared.call.Answer.{Answer}
use Rattle.bm_base.specs.Words.{State, step, MayAnswer, MayAnswerAll, state_after_answer, is_out_of_memory}
use Rattle.bm_manager.specs.SameAnswers.{HaveSameAnswers}

-- an answer other than out of memory is the step's, and so is the next state
the_steps : (M : State) (k : Call) (x : Answer) → MayAnswer M k x → is_out_of_memory x ≡ false → x ≡ (step M k).0
the_steps M k x (inl is) e = is
the_steps M k x (inr h) e = let lacks : true ≡ false = ap is_out_of_memory (sym h.1) ∙ e in cc

left_by_step : (M : State) (k : Call) (x : Answer) → is_out_of_memory x ≡ false → state_after_answer M k x ≡ (step M k).1
left_by_step M k x e = ap (λ b. if b then M else (step M k).1) e

-- if neither answer is out of memory, both leave the same state, so the rest is alike
next_alike : (M : State) (k : Call) (ks : List Call) (x y : Answer) (xs ys : List Answer) (b c : Bool) → is_out_of_memory x ≡ b → is_out_of_memory y ≡ c
    → ((N : State) → MayAnswerAll N ks xs → MayAnswerAll N ks ys → HaveSameAnswers xs ys)
    → MayAnswerAll M (k ∷ ks) (x ∷ xs) → MayAnswerAll M (k ∷ ks) (y ∷ ys) → HaveSameAnswers (x ∷ xs) (y ∷ ys)
next_alike M k ks x y xs ys true c e f more h g = inl (ap (λ p. p || is_out_of_memory y) e)
next_alike M k ks x y xs ys false true e f more h g = inl (ap (λ p. p || is_out_of_memory y) e ∙ f)
next_alike M k ks x y xs ys false false e f more h g =
    let here = the_steps M k x h.0 e ∙ sym (the_steps M k y g.0 f) in
    let after = subst (λ N. MayAnswerAll N ks xs) (left_by_step M k x e) h.1 in
    let after_too = subst (λ N. MayAnswerAll N ks ys) (left_by_step M k y f) g.1 in
    inr (here, more (step M k).1 after after_too)

pub both_alike : (M : State) (ks : List Call) (xs ys : List Answer) → MayAnswerAll M ks xs → MayAnswerAll M ks ys → HaveSameAnswers xs ys
both_alike M [] [] [] h g = tt
both_alike M [] [] (y ∷ ys) h g = g
both_alike M [] (x ∷ xs) [] h g = h
both_alike M [] (x ∷ xs) (y ∷ ys) h g = absurd h
both_alike M (k ∷ ks) [] [] h g = tt
both_alike M (k ∷ ks) [] (y ∷ ys) h g = h
both_alike M (k ∷ ks) (x ∷ xs) [] h g = g
both_alike M (k ∷ ks) (x ∷ xs) (y ∷ ys) h g = next_alike M k ks x y xs ys (is_out_of_memory x) (is_out_of_memory y) refl refl (λ N. both_alike N ks xs ys) h g
