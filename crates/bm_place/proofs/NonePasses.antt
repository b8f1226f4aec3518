-- If a search finds no index, no element of the list passes the test.
use Rattle.std.specs.Prelude.{position}
use Rattle.std.specs.List.{position_or_len}
use Rattle.std.proofs.Common.{◌≡◌, ◌≤◌, Bool, false, List, [], ◌∷◌, length, None, inl, inr, sym, subst, ◌∙◌, arith}
use Rattle.std.proofs.lemmas.Bool.{cases_Bool, cases_lt, lt-ltb, cond-true}
use Rattle.std.proofs.lemmas.Option.{none-some}
use Rattle.bm_place.specs.BestTargets.{IsMember}

none_before : {X : Type 0} (p : X → Bool) (xs : List X) → length xs ≤ position_or_len p xs → (x : X) → IsMember xs x → p x ≡ false
none_before p [] all x none = absurd none
none_before p (y ∷ xs) all x there =
    elim (cases_Bool (p y)) [
      | inl here ↦ absurd (omega (arith, rw here at all))
      | inr other ↦ by there (none_before p xs (omega (arith, rw other at all)) x) other
    ]
  where
    by : IsMember (y ∷ xs) x → (IsMember xs x → p x ≡ false) → p y ≡ false → p x ≡ false
    by (inl e) rest other = subst (λ x. p x ≡ false) e other
    by (inr h) rest other = rest h

all_passed : {X : Type 0} (p : X → Bool) (xs : List X) → position p xs ≡ None → length xs ≤ position_or_len p xs
all_passed p xs none =
    elim (cases_lt (position_or_len p xs) (length xs)) [
      | inl below ↦
          let test = lt-ltb (position_or_len p xs) (length xs) below in
          absurd (none-some (position_or_len p xs) (sym none ∙ cond-true _ _ _ test))
      | inr above ↦ above
    ]

pub none_passes : {X : Type 0} (p : X → Bool) (xs : List X) → position p xs ≡ None → (x : X) → IsMember xs x → p x ≡ false
none_passes p xs none x there = none_before p xs (all_passed p xs none) x there
