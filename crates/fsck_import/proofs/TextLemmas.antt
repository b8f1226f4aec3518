-- The lines of a text that is not empty are its first line and the lines of the rest.
use Rattle.std.proofs.Common.{◌≡◌, ◌≢◌, ℕ, ◌<◌, Bool, true, false, [], ◌∷◌, ◌++◌, Option, Some, None, MatchOption, unwrap_or, ◌==◌, if◌then◌else◌, length, arith, refl, sym, ap, ◌∙◌, inl, inr}
use Rattle.std.proofs.lemmas.Bool.{ne_eqb, eq-eqb}
use Rattle.std.proofs.lemmas.Bool.Decides.{eqb_tells}
use Rattle.std.specs.Io.BufRead.{take_through, drop_through}
use denote.Ref.{Bor}
use Rattle.bm_lines.specs.Lines.{lines_of, onto}
use Rattle.fsck_text.specs.Cuts.{Text}
use Rattle.fsck_import.specs.Lines.{without_end}

module _ (mark : ℕ) where
  without_end-push : (xs : Text) → without_end mark (xs ++ mark ∷ []) ≡ xs
  without_end-push [] = rw (eq-eqb mark mark refl) refl
  without_end-push (x ∷ []) = rw (eq-eqb mark mark refl) refl
  without_end-push (x ∷ y ∷ xs) = ap (λ ys. x ∷ ys) (without_end-push (y ∷ xs))

  without_end-none : (xs : Text) → ((front : Text) → xs ≢ front ++ mark ∷ []) → without_end mark xs ≡ xs
  without_end-none [] none = refl
  without_end-none (x ∷ []) none = rw (ne_eqb x mark (λ e. none [] (ap (λ b. b ∷ []) e))) refl
  without_end-none (x ∷ y ∷ xs) none = ap (λ ys. x ∷ ys) (without_end-none (y ∷ xs) (λ front e. none (x ∷ front) (ap (λ ys. x ∷ ys) e)))

  -- the result of strip_suffix
  pub without_end-from : (line : Bor Text) (r : Option (Bor Text)) → MatchOption r ((front : Text) → line.now ≢ front ++ mark ∷ []) (λ x. line.now ≡ x.now ++ mark ∷ []) → (unwrap_or r line).now ≡ without_end mark line.now
  without_end-from line None h = sym (without_end-none line.now h)
  without_end-from line (Some x) h = sym (ap (without_end mark) h ∙ without_end-push x.now)

without_end-cons : (x : ℕ) (xs : Text) → 0 < length xs → without_end 10 (x ∷ xs) ≡ x ∷ without_end 10 xs
without_end-cons x [] h = absurd (omega arith)
without_end-cons x (y ∷ xs) h = refl

some_taken : (xs : Text) → 0 < length xs → 0 < length (take_through 10 xs)
some_taken [] h = h
some_taken (x ∷ xs) h = elim (eqb_tells x 10) [ inl e ↦ rw e.0 (omega arith) | inr e ↦ rw e.0 (omega arith) ]

-- a text that begins with a line end, or whose first byte is the first of its first line
first_byte : (x : ℕ) (tail : Text) (b : Bool) → (x == 10) ≡ b → lines_of tail ≡ without_end 10 (take_through 10 tail) ∷ lines_of (drop_through 10 tail)
    → without_end 10 (x ∷ take_through 10 tail) ≡ x ∷ without_end 10 (take_through 10 tail)
    → (if b then [] ∷ lines_of tail else onto x (lines_of tail)) ≡ without_end 10 (if b then x ∷ [] else x ∷ take_through 10 tail) ∷ lines_of (if b then tail else drop_through 10 tail)
first_byte x tail true e rest taken = rw e refl
first_byte x tail false e rest taken = rw (rest, taken) refl

-- the first line of a text, and the others
pub lines_of-through : (xs : Text) → 0 < length xs → lines_of xs ≡ without_end 10 (take_through 10 xs) ∷ lines_of (drop_through 10 xs)
unfolding lines_of
lines_of-through [] h = absurd (omega arith)
lines_of-through (x ∷ []) h = elim (eqb_tells x 10) [ inl e ↦ rw (e.0, e.0) refl | inr e ↦ rw (e.0, e.0) refl ]
lines_of-through (x ∷ y ∷ xs) h =
    let rest : lines_of (y ∷ xs) ≡ without_end 10 (take_through 10 (y ∷ xs)) ∷ lines_of (drop_through 10 (y ∷ xs)) = lines_of-through (y ∷ xs) (omega arith) in
    let taken = without_end-cons x (take_through 10 (y ∷ xs)) (some_taken (y ∷ xs) (omega arith)) in
    first_byte x (y ∷ xs) (x == 10) refl rest taken
