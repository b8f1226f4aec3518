-- Taking a slot out of a list without duplicates removes this slot alone.
use Rattle.std.proofs.Common.{◌≡◌, ◌≢◌, ◌⊎◌, ℕ, zero, suc, ◌<◌, ◌≤◌, ◌+◌, eqb, List, [], ◌∷◌, length, None, inl, inr, subst, sym, ap, ◌∙◌, refl, arith}
use Rattle.std.proofs.lemmas.Bool.{cases_eq, cases_Bool, ne_eqb, eqb-true, eqb-false}
use Rattle.bm_maps.specs.SlotLists.{IsMember, Distinct, without, slot_after}

pub apart : (x z : ℕ) (xs : List ℕ) → (IsMember x xs → ⊥) → IsMember z xs → z ≢ x
apart x z xs absent there same = absent (let P : ℕ → Type 0 = λ w. IsMember w xs in subst P same there)

pub IsMember-without : (x z : ℕ) (xs : List ℕ) → IsMember z (without x xs) → IsMember z xs
IsMember-without x z [] there = absurd there
IsMember-without x z (y ∷ ys) there =
    elim (cases_Bool (eqb y x)) [
      | inl same ↦ inr (rw same at there)
      | inr other ↦
          elim (let h : (z ≡ y) ⊎ IsMember z (without x ys) = rw other at there in h) [ inl here ↦ inl here | inr later ↦ inr (IsMember-without x z ys later) ]
    ]

pub IsMember-without_other : (x z : ℕ) (xs : List ℕ) → IsMember z xs → z ≢ x → IsMember z (without x xs)
IsMember-without_other x z [] there differs = absurd there
IsMember-without_other x z (y ∷ ys) there differs =
    elim (cases_Bool (eqb y x)) [
      | inl same ↦ rw same (elim there [ inl here ↦ absurd (differs (here ∙ eqb-true y x same)) | inr later ↦ later ])
      | inr other ↦ rw other (elim there [ inl here ↦ inl here | inr later ↦ inr (IsMember-without_other x z ys later differs) ])
    ]

pub without-gone : (x : ℕ) (xs : List ℕ) → Distinct xs → IsMember x (without x xs) → ⊥
without-gone x [] distinct there = there
without-gone x (y ∷ ys) distinct there =
    elim (cases_Bool (eqb y x)) [
      | inl same ↦ distinct.0 (let P : ℕ → Type 0 = λ w. IsMember w ys in subst P (sym (eqb-true y x same)) (rw same at there))
      | inr other ↦
          elim (let h : (x ≡ y) ⊎ IsMember x (without x ys) = rw other at there in h) [ inl here ↦ eqb-false y x other (sym here) | inr later ↦ without-gone x ys distinct.1 later ]
    ]

pub without-absent : (x : ℕ) (xs : List ℕ) → (IsMember x xs → ⊥) → without x xs ≡ xs
without-absent x [] absent = refl
without-absent x (y ∷ ys) absent =
    rw (ne_eqb y x (λ e. absent (inl (sym e)))) (ap (λ zs. y ∷ zs) (without-absent x ys (λ h. absent (inr h))))

pub Distinct-without : (x : ℕ) (xs : List ℕ) → Distinct xs → Distinct (without x xs)
Distinct-without x [] distinct = tt
Distinct-without x (y ∷ ys) distinct =
    elim (cases_Bool (eqb y x)) [
      | inl same ↦ rw same distinct.1
      | inr other ↦ rw other (λ h. distinct.0 (IsMember-without x y ys h), Distinct-without x ys distinct.1)
    ]

pub length-without : (x : ℕ) (xs : List ℕ) → IsMember x xs → length (without x xs) + 1 ≡ length xs
length-without x [] there = absurd there
length-without x (y ∷ ys) there =
    elim (cases_Bool (eqb y x)) [
      | inl same ↦ rw same (omega arith)
      | inr other ↦
          rw other (elim there [
            | inl here ↦ absurd (eqb-false y x other (sym here))
            | inr later ↦ omega (arith, length-without x ys later)
          ])
    ]

pub dec_among : (x : ℕ) (xs : List ℕ) → IsMember x xs ⊎ (IsMember x xs → ⊥)
dec_among x [] = inr (λ h. h)
dec_among x (y ∷ ys) =
    elim (cases_eq x y) [
      | inl same ↦ inl (inl same)
      | inr differs ↦ elim (dec_among x ys) [ inl there ↦ inl (inr there) | inr absent ↦ inr (λ h. elim h [ inl here ↦ differs here | inr later ↦ absent later ]) ]
    ]

-- there are at most n distinct numbers below n
pub length-distinct_below : (n : ℕ) (xs : List ℕ) → Distinct xs → ((x : ℕ) → IsMember x xs → x < n) → length xs ≤ n
length-distinct_below zero [] distinct below = omega arith
length-distinct_below zero (x ∷ xs) distinct below = absurd (omega (arith, below x (inl refl)))
length-distinct_below (suc n) xs distinct below =
    elim (dec_among n xs) [
      | inl there ↦
          let shorter : length (without n xs) ≤ n = length-distinct_below n (without n xs) (Distinct-without n xs distinct) (λ z h.
          let ne : z ≢ n = λ e. without-gone n xs distinct (let P : ℕ → Type 0 = λ w. IsMember w (without n xs) in subst P e h) in
          omega (arith, below z (IsMember-without n z xs h), ne)) in
          omega (arith, shorter, length-without n xs there)
      | inr absent ↦
          let all : length xs ≤ n = length-distinct_below n xs distinct (λ z h.
          let ne : z ≢ n = λ e. absent (let P : ℕ → Type 0 = λ w. IsMember w xs in subst P e h) in
          omega (arith, below z h, ne)) in
          omega (arith, all)
    ]

pub slot_after-absent : (x : ℕ) (xs : List ℕ) → (IsMember x xs → ⊥) → slot_after x xs ≡ None
slot_after-absent x [] absent = refl
slot_after-absent x (y ∷ ys) absent = rw (ne_eqb y x (λ e. absent (inl (sym e)))) (slot_after-absent x ys (λ h. absent (inr h)))
