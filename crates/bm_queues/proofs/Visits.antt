-- An iteration by `next` visits all slots of a list, in order.
use Rattle.std.proofs.Common.{◌≡◌, ◌≢◌, ℕ, zero, suc, ◌≤◌, List, [], ◌∷◌, length, Option, inl, inr, subst, sym, ap, ◌∙◌, refl, arith}
use Rattle.std.proofs.lemmas.Bool.{eq-eqb, ne_eqb}
use Rattle.bm_maps.specs.SlotLists.{IsMember, Distinct, first_of, slot_after}
use Rattle.bm_queues.specs.Links.{walk}

-- a function that returns the next slot of each slot visits all of them, in their order
pub walk-after : (behind : ℕ → Option ℕ) (xs : List ℕ) (n : ℕ) → Distinct xs → ((x : ℕ) → IsMember x xs → behind x ≡ slot_after x xs) → length xs ≤ n → walk behind n (first_of xs) ≡ xs
walk-after behind [] zero distinct is fits = refl
walk-after behind [] (suc n) distinct is fits = refl
walk-after behind (x ∷ ys) zero distinct is fits = absurd (omega arith)
walk-after behind (x ∷ ys) (suc n) distinct is fits =
    let here : behind x ≡ first_of ys = is x (inl refl) ∙ (rw (eq-eqb x x refl) refl) in
    let rest : walk behind n (first_of ys) ≡ ys = walk-after behind ys n distinct.1 (λ y there.
    let differs : x ≢ y = λ e. distinct.0 (let P : ℕ → Type 0 = λ w. IsMember w ys in subst P (sym e) there) in
    is y (inr there) ∙ (rw (ne_eqb x y differs) refl)) (omega arith) in
    rw here (ap (λ zs. x ∷ zs) rest)
