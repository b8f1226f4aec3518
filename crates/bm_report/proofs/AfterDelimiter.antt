-- Linking or moving a slot to the head removes it, and no other, from those after the delimiter.
use Rattle.std.proofs.Common.{◌≡◌, ◌≢◌, ℕ, List, [], ◌∷◌, eqb, false, refl, inl, inr, sym, ◌∙◌}
use Rattle.std.proofs.lemmas.Bool.{cases_Bool, eqb-true, ne_eqb}
use Rattle.bm_maps.specs.SlotLists.{IsMember, Distinct, without}
use Rattle.bm_maps.proofs.SlotLists.{without-absent}
use Rattle.bm_arena.specs.Contents.{Contents, list_of}
use Rattle.bm_report.specs.DuringReport.{after, behind}

pub IsMember-after : (d x : ℕ) (xs : List ℕ) → IsMember x (after d xs) → IsMember x xs
IsMember-after d x [] m = m
IsMember-after d x (y ∷ ys) m =
    elim (cases_Bool (eqb y d)) [ inl here ↦ inr (rw here at m) | inr other ↦ inr (IsMember-after d x ys (rw other at m)) ]

pub after-front : (d x : ℕ) (xs : List ℕ) → x ≢ d → after d (x ∷ xs) ≡ after d xs
after-front d x xs apart = rw (ne_eqb x d apart) refl

pub after-without : (d x : ℕ) (xs : List ℕ) → x ≢ d → Distinct xs → after d (without x xs) ≡ without x (after d xs)
after-without d x [] apart distinct = refl
after-without d x (y ∷ ys) apart distinct =
    elim (cases_Bool (eqb y d)) [
      | inl mark ↦
          let other : eqb y x ≡ false = ne_eqb y x (λ same. apart (sym same ∙ eqb-true y d mark)) in
          rw (other, mark) refl
      | inr behind_it ↦
          elim (cases_Bool (eqb y x)) [
            | inl here ↦
                let gone : IsMember x (after d ys) → ⊥ = λ m. distinct.0 (rw (eqb-true y x here) (IsMember-after d x ys m)) in
                rw (here, behind_it) (sym (without-absent x (after d ys) gone))
            | inr other ↦ rw (other, behind_it) (after-without d x ys apart distinct.1)
          ]
    ]

module _ (old new : Contents) (s slot : ℕ) (delimiter : new.delimiter ≡ old.delimiter) (apart : slot ≢ old.delimiter) where
  -- a slot is linked at the head
  pub behind-linked : (IsMember slot (list_of old s) → ⊥) → list_of new s ≡ slot ∷ list_of old s → behind new s ≡ without slot (behind old s)
  behind-linked absent list =
      (λ i. after (delimiter i) (list i)) ∙ after-front old.delimiter slot (list_of old s) apart
      ∙ sym (without-absent slot (behind old s) (λ m. absent (IsMember-after old.delimiter slot (list_of old s) m)))

  -- a slot is moved to the head
  pub behind-moved : Distinct (list_of old s) → list_of new s ≡ slot ∷ without slot (list_of old s) → behind new s ≡ without slot (behind old s)
  behind-moved distinct list =
      (λ i. after (delimiter i) (list i)) ∙ after-front old.delimiter slot (without slot (list_of old s)) apart
      ∙ after-without old.delimiter slot (list_of old s) apart distinct

  -- the list stays
  pub behind-kept : list_of new s ≡ list_of old s → behind new s ≡ behind old s
  behind-kept list = λ i. after (delimiter i) (list i)
