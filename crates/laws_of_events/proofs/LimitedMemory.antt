-- With limited memory a refused call keeps the state, and any other is the definition's step.
use Rattle.std.proofs.Common.{◌≡◌, Bool, true, false, if◌then◌else◌, refl, sym, ap, ◌∙◌, inl, inr}
use Rattle.bm_base.specs.declared.call.Answer.{Answer}
use Rattle.bm_base.specs.declared.call.Answer.TheVariants as answer
use Rattle.bm_base.specs.Words.{State, step, is_refused, is_out_of_memory, state_after_answer}
use Rattle.laws_of_events.proofs.LawfulStates.{refusal_leaves}
use Rattle.laws_of_events.specs.Calls as law

same_either : (b : Bool) (M N : State) → N ≡ M → (if b then M else N) ≡ M
same_either true M N e = refl
same_either false M N e = e

pub refused_leaves : law.refused_answer_leaves_state
refused_leaves M k a (inl is) refused = same_either (is_out_of_memory a) M (step M k).1 (refusal_leaves M k (ap is_refused (sym is) ∙ refused))
refused_leaves M k a (inr lacks) refused = ap (state_after_answer M k) lacks.1

wants_none : (a : Answer) → is_refused a ≡ false → is_out_of_memory a ≡ false
wants_none (answer.Refused r) e = cc
wants_none (answer.Done d) e = refl
wants_none (answer.Commanded c) e = refl
wants_none (answer.Replicas rs) e = refl
wants_none (answer.ReplicaIds ids) e = refl
wants_none (answer.Blocks bs) e = refl
wants_none (answer.Storages ss) e = refl
wants_none (answer.LevelIs l) e = refl
wants_none (answer.IsRetired b) e = refl
wants_none (answer.Number n) e = refl

pub other_is_the_steps : law.other_answer_is_the_steps
other_is_the_steps M k a (inl is) fine = (is, ap (λ b. if b then M else (step M k).1) (wants_none a fine))
other_is_the_steps M k a (inr lacks) fine = let clash : true ≡ false = sym (ap is_refused lacks.1) ∙ fine in (cc)
