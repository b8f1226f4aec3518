-- `split_once`, `rsplit_once`, `strip_prefix` and `find` cut a text as the definitions do.
use Rattle.std.proofs.Common.{◌≡◌, ◌≢◌, ℕ, ◌<◌, ◌≤◌, ◌+◌, [], ◌∷◌, ◌++◌, Option, Some, None, option_map, MatchOption, suc, length, get_or, take, drop, arith, refl, sym, ap, ◌∙◌, inl, inr, zero, unwrap_or}
use Rattle.std.proofs.lemmas.Bool.{ne_eqb, eq-eqb}
use Rattle.std.proofs.lemmas.Bool.Decides.{eqb_tells}
use Rattle.std.proofs.lemmas.Str.Pattern.{NoCharPasses-char, drop_at_char}
use Rattle.std.proofs.lemmas.List.{take-append-drop}
use Rattle.std.specs.Str.Pattern.{RFindsChar, FindsText, FindsTextPrefix, MatchBeginsAt}
use denote.Ref.{Bor}
use Rattle.fsck_text.specs.Cuts.{Text, cut_at, last_cut_at, after_prefix, bytes_before}

-- no byte of the text is the mark
abbrev pub IsWithout : ℕ → Text → Type 0
IsWithout mark xs = (i : ℕ) → i < length xs → get_or xs i 0 ≢ mark

pub cut_at-parts : (mark : ℕ) (xs ys : Text) → IsWithout mark xs → cut_at mark (xs ++ mark ∷ ys) ≡ Some (xs, ys)
cut_at-parts mark [] ys none = rw (eq-eqb mark mark refl) refl
cut_at-parts mark (x ∷ xs) ys none = rw (ne_eqb x mark (none 0 (omega arith)), cut_at-parts mark xs ys (λ i h. none (suc i) (omega arith))) refl

pub cut_at-none : (mark : ℕ) (xs : Text) → IsWithout mark xs → cut_at mark xs ≡ None
cut_at-none mark [] none = refl
cut_at-none mark (x ∷ xs) none = rw (ne_eqb x mark (none 0 (omega arith)), cut_at-none mark xs (λ i h. none (suc i) (omega arith))) refl

-- the result of a call of split_once
pub cut_at-from : (mark : ℕ) (bs : Text) (r : Option (Bor Text × Bor Text))
    → MatchOption r (IsWithout mark bs) (λ x. (bs ≡ x.0.now ++ (mark ∷ x.1.now)) × IsWithout mark x.0.now)
    → option_map (λ p. (p.0.now, p.1.now)) r ≡ cut_at mark bs
cut_at-from mark bs None h = sym (cut_at-none mark bs h)
cut_at-from mark bs (Some x) h = sym (ap (cut_at mark) h.0 ∙ cut_at-parts mark x.0.now x.1.now h.1)

pub last_cut_at-none : (mark : ℕ) (xs : Text) → IsWithout mark xs → last_cut_at mark xs ≡ None
last_cut_at-none mark [] none = refl
last_cut_at-none mark (x ∷ xs) none = rw (last_cut_at-none mark xs (λ i h. none (suc i) (omega arith)), ne_eqb x mark (none 0 (omega arith))) refl

pub last_cut_at-parts : (mark : ℕ) (xs ys : Text) → IsWithout mark ys → last_cut_at mark (xs ++ mark ∷ ys) ≡ Some (xs, ys)
last_cut_at-parts mark [] ys none = rw (last_cut_at-none mark ys none, eq-eqb mark mark refl) refl
last_cut_at-parts mark (x ∷ xs) ys none = rw (last_cut_at-parts mark xs ys none) refl

-- the result of a call of rsplit_once
pub last_cut_at-from : (mark : ℕ) (bs : Text) (r : Option (Bor Text × Bor Text))
    → MatchOption r (RFindsChar mark bs None) (λ x. (i : ℕ) × (j : ℕ) × RFindsChar mark bs (Some (i, j)) × (x.0.now ≡ take i bs) × (x.1.now ≡ drop j bs) × (i ≤ j) × (length x.0.now ≡ i) × (length x.1.now + j ≡ length bs))
    → mark < 128
    → option_map (λ p. (p.0.now, p.1.now)) r ≡ last_cut_at mark bs
last_cut_at-from mark bs None h small = sym (last_cut_at-none mark bs (λ i lt. NoCharPasses-char mark bs i h small lt))
last_cut_at-from mark bs (Some x) h small =
    let whole : bs ≡ take h.0 bs ++ (mark ∷ drop h.1 bs) = sym (take-append-drop h.0 bs) ∙ ap (λ ys. take h.0 bs ++ ys) (drop_at_char mark bs h.0 h.1 h.2.1 small) in
    let cut = ap (last_cut_at mark) whole ∙ last_cut_at-parts mark (take h.0 bs) (drop h.1 bs) (λ k lt. NoCharPasses-char mark (drop h.1 bs) k h.2.0 small lt) in
    rw (h.3, h.4) (sym cut)

pub after_prefix-parts : (p xs : Text) → after_prefix p (p ++ xs) ≡ Some xs
after_prefix-parts [] xs = refl
after_prefix-parts (a ∷ p) xs = rw (eq-eqb a a refl) (after_prefix-parts p xs)

after_prefix-none : (p bs : Text) → ((rest : Text) → bs ≢ p ++ rest) → after_prefix p bs ≡ None
after_prefix-none [] bs none = absurd (none bs refl)
after_prefix-none (a ∷ p) [] none = refl
after_prefix-none (a ∷ p) (b ∷ bs) none = elim (eqb_tells a b) [
  | inl e ↦ rw e.0 (after_prefix-none p bs (λ rest h. none rest (ap (λ ys. b ∷ ys) h ∙ ap (λ c. c ∷ (p ++ rest)) (sym e.1))))
  | inr e ↦ rw e.0 refl
]

-- the result of a call of strip_prefix
pub after_prefix-from : (p bs : Text) (r : Option (Bor Text))
    → MatchOption r (FindsTextPrefix p bs None) (λ x. (n : ℕ) × FindsTextPrefix p bs (Some n) × (x.now ≡ drop n bs) × (length x.now + n ≡ length bs))
    → option_map (λ t. t.now) r ≡ after_prefix p bs
after_prefix-from p bs None h = sym (after_prefix-none p bs h)
after_prefix-from p bs (Some x) h = ap Some h.2 ∙ sym (ap (after_prefix p) h.1.1 ∙ after_prefix-parts p (drop h.0 bs))

bytes_before-at : (word line : Text) (i : ℕ) (rest : Text) → drop i line ≡ word ++ rest → ((k : ℕ) → k < i → (r : Text) → drop k line ≢ word ++ r)
    → bytes_before word line ≡ i
bytes_before-at word [] zero rest at before = refl
bytes_before-at word [] (suc i) rest at before = absurd (before 0 (omega arith) rest at)
bytes_before-at word (b ∷ bs) zero rest at before = rw (ap (after_prefix word) at ∙ after_prefix-parts word rest) refl
bytes_before-at word (b ∷ bs) (suc i) rest at before =
    rw (after_prefix-none word (b ∷ bs) (λ r. before 0 (omega arith) r))
    (omega (arith, bytes_before-at word bs i rest at (λ k lt r. before (suc k) (omega arith) r)))

bytes_before-none : (word line : Text) → ((i : ℕ) → i ≤ length line → (r : Text) → drop i line ≢ word ++ r) → bytes_before word line ≡ length line
bytes_before-none word [] none = refl
bytes_before-none word (b ∷ bs) none =
    rw (after_prefix-none word (b ∷ bs) (λ r. none 0 (omega arith) r))
    (omega (arith, bytes_before-none word bs (λ i le r. none (suc i) (omega arith) r)))

-- the result of a call of find
pub bytes_before-from : (word line : Text) (r : Option ℕ)
    → MatchOption r (FindsText word line None) (MatchBeginsAt (FindsText word) line) → unwrap_or r (length line) ≡ bytes_before word line
bytes_before-from word line None h = sym (bytes_before-none word line h)
bytes_before-from word line (Some i) h = sym (bytes_before-at word line i (drop h.0 line) h.1.1.split h.1.0)
