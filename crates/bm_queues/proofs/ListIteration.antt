-- Removing a slot that an iteration over a list has passed keeps the iteration's remaining slots.
use Rattle.std.proofs.Common.{◌≡◌, ◌≢◌, ℕ, eqb, List, [], ◌∷◌, Option, Some, None, inl, inr, subst, sym, ap, ◌∙◌, refl}
use Rattle.std.specs.Option.{IfSome}
use Rattle.std.proofs.lemmas.Bool.{cases_Bool, eq-eqb, ne_eqb, eqb-true, eqb-false}
use Rattle.std.proofs.lemmas.Option.{none-some}
use Rattle.bm_maps.specs.SlotLists.{IsMember, Distinct, without, first_of, slot_after}
use Rattle.bm_maps.proofs.SlotLists.{dec_among, slot_after-absent, without-absent, IsMember-without_other}
use Rattle.bm_queues.specs.Walks.{slots_from, IsOn, IsPast}
use Rattle.bm_queues.proofs.HeldLists.{first_among}

if_some : (r : Option ℕ) (P : ℕ → Type 0) → ((z : ℕ) → r ≡ Some z → P z) → IfSome r P
if_some None P h = tt
if_some (Some z) P h = h z refl

after-among : (x : ℕ) (xs : List ℕ) (z : ℕ) → slot_after x xs ≡ Some z → IsMember z xs
after-among x [] z e = absurd (none-some z e)
after-among x (y ∷ ys) z e =
    elim (cases_Bool (eqb y x)) [
      | inl same ↦ inr (first_among ys z (rw same at e))
      | inr other ↦ inr (after-among x ys z (rw other at e))
    ]

from-skip : (y : ℕ) (ys : List ℕ) (at : Option ℕ) → at ≢ Some y → slots_from (y ∷ ys) at ≡ slots_from ys at
from-skip y ys None differs = refl
from-skip y ys (Some z) differs = rw (ne_eqb y z (λ e. differs (ap Some (sym e)))) refl

from-first : (xs : List ℕ) → slots_from xs (first_of xs) ≡ xs
from-first [] = refl
from-first (x ∷ xs) = rw (eq-eqb x x refl) refl

from-next : (x : ℕ) (xs : List ℕ) → Distinct xs → IsMember x xs → slots_from xs (Some x) ≡ x ∷ slots_from xs (slot_after x xs)
from-next x [] distinct there = absurd there
from-next x (y ∷ ys) distinct there =
    elim (cases_Bool (eqb y x)) [
      | inl same ↦
          let rest : slots_from (y ∷ ys) (first_of ys) ≡ ys = from-skip y ys (first_of ys) (λ e. distinct.0 (first_among ys y e)) ∙ from-first ys in
          rw same (λ j. eqb-true y x same j ∷ sym rest j)
      | inr other ↦
          let later : IsMember x ys = elim there [ inl here ↦ absurd (eqb-false y x other (sym here)) | inr later ↦ later ] in
          let rest : slots_from (y ∷ ys) (slot_after x ys) ≡ slots_from ys (slot_after x ys) = from-skip y ys (slot_after x ys) (λ e. distinct.0 (after-among x ys y e)) in
          rw other (from-next x ys distinct.1 later ∙ ap (λ zs. x ∷ zs) (sym rest))
    ]

from-distinct : (xs : List ℕ) (at : Option ℕ) → Distinct xs → Distinct (slots_from xs at)
from-distinct xs None distinct = tt
from-distinct [] (Some z) distinct = tt
from-distinct (y ∷ ys) (Some z) distinct = elim (cases_Bool (eqb y z)) [ inl same ↦ rw same distinct | inr other ↦ rw other (from-distinct ys (Some z) distinct.1) ]

past-next : (x : ℕ) (xs : List ℕ) → Distinct xs → IsPast x (slot_after x xs) xs
past-next x xs distinct =
    elim (dec_among x xs) [
      | inl there ↦
          let next = from-next x xs distinct there in
          let rest : IsMember x (slots_from xs (slot_after x xs)) → ⊥ = (subst Distinct next (from-distinct xs (Some x) distinct)).0 in
          (λ e. rest (subst (λ zs. IsMember x zs) (sym (ap (slots_from xs) e ∙ next)) (inl refl)), rest)
      | inr absent ↦ rw (slot_after-absent x xs absent) (λ e. none-some x e, λ h. h)
    ]

-- the removal of a slot that was passed keeps the remaining slots
pub from-without : (x : ℕ) (xs : List ℕ) (at : Option ℕ) → IsPast x at xs → slots_from (without x xs) at ≡ slots_from xs at
from-without x xs None past = refl
from-without x [] (Some z) past = refl
from-without x (y ∷ ys) (Some z) past =
    elim (cases_Bool (eqb y x)) [
      | inl same ↦ rw same (sym (from-skip y ys (Some z) (λ e. past.0 (e ∙ ap Some (eqb-true y x same)))))
      | inr other ↦
          rw other (elim (cases_Bool (eqb y z)) [
            | inl here ↦ let gone = rw here at past.1 in rw here (ap (λ zs. y ∷ zs) (without-absent x ys (λ h. gone (inr h))))
            | inr further ↦ let gone = rw further at past.1 in rw further (from-without x ys (Some z) (past.0, gone))
          ])
    ]

pub on-without : (x : ℕ) (xs : List ℕ) (at : Option ℕ) → IsPast x at xs → IsOn at xs → IsOn at (without x xs)
on-without x xs None past on = tt
on-without x xs (Some z) past on = IsMember-without_other x z xs on (λ e. past.0 (ap Some e))

-- The first slot and the next slot, in the form of the calls.

module _ (xs : List ℕ) (r : Option ℕ) where
  pub all-from : r ≡ first_of xs → slots_from xs r ≡ xs
  all-from is = ap (slots_from xs) is ∙ from-first xs

  pub first-is_on : r ≡ first_of xs → IsOn r xs
  first-is_on is = if_some r (λ z. IsMember z xs) (λ z e. first_among xs z (sym is ∙ e))

  module _ (x : ℕ) (is : r ≡ slot_after x xs) where
    pub next-is_on : IsOn r xs
    next-is_on = if_some r (λ z. IsMember z xs) (λ z e. after-among x xs z (sym is ∙ e))

    pub rest-next : Distinct xs → IsMember x xs → slots_from xs (Some x) ≡ x ∷ slots_from xs r
    rest-next distinct there = from-next x xs distinct there ∙ ap (λ at. x ∷ slots_from xs at) (sym is)

    pub past-is : Distinct xs → IsPast x r xs
    past-is distinct = subst (λ at. IsPast x at xs) (sym is) (past-next x xs distinct)
