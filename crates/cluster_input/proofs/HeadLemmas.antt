-- A text's first bytes show its kind if one of them is not blank.
use Rattle.std.proofs.Common.{◌≡◌, ℕ, zero, suc, Bool, true, false, cond, not, ◌||◌, List, [], ◌∷◌, ◌++◌, drop, length, Option, Some, None, IfSome, refl, sym, ap, subst, ◌∙◌}
use Rattle.std.specs.List.{find, list_any}
use Rattle.std.specs.Io.{StartsWith, appended_bytes}
use Rattle.std.specs.Io.KnownBytes.{Consumes}
use Rattle.std.proofs.lemmas.List.{take-append-drop}
use Rattle.std.proofs.KnownBytes.{Consumes-nil, Consumes-trans}
use Rattle.std.proofs.lemmas.Bool.{or_right}
use Rattle.cluster_input.specs.Kinds.{is_blank, is_brace, are_lines, IsHeadOf}

-- the first byte that is not blank in the front is the first in the whole
find_in : (p : ℕ → Bool) (xs ys : List ℕ) → list_any p xs ≡ true → find p (xs ++ ys) ≡ find p xs
find_in p [] ys h = cc
find_in p (x ∷ xs) ys h = by (p x) h (λ k. find_in p xs ys k)
  where
    by : (b : Bool) → (b || list_any p xs) ≡ true → (list_any p xs ≡ true → find p (xs ++ ys) ≡ find p xs)
        → cond b (Some x) (find p (xs ++ ys)) ≡ cond b (Some x) (find p xs)
    by true k rest = refl
    by false k rest = rest k

-- a byte of the front is one of the whole
any_in : (p : ℕ → Bool) (xs ys : List ℕ) → list_any p xs ≡ true → list_any p (xs ++ ys) ≡ true
any_in p [] ys h = cc
any_in p (x ∷ xs) ys h = by (p x) h (λ k. any_in p xs ys k)
  where
    by : (b : Bool) → (b || list_any p xs) ≡ true → (list_any p xs ≡ true → list_any p (xs ++ ys) ≡ true)
        → (b || list_any p (xs ++ ys)) ≡ true
    by true k rest = refl
    by false k rest = rest k

abbrev pub any_of : ℕ → Bool
any_of b = not (is_blank b)

alike_here : (head rest : List ℕ) → list_any any_of head ≡ true → are_lines head ≡ are_lines (head ++ rest)
alike_here head rest h = ap is_brace (sym (find_in any_of head rest h))

-- no bytes were read so far
pub none_read : (known : Option (List ℕ)) → Consumes known known []
none_read = Consumes-nil

-- one more line is appended to the head
pub head_more : (known a b : Option (List ℕ)) (old new : List ℕ) → Consumes known a old → Consumes a b (appended_bytes old new) → StartsWith new old
    → Consumes known b new
head_more known a b old new h k starts =
    subst (Consumes known b) (ap (λ xs. xs ++ drop (length old) new) (sym starts) ∙ take-append-drop (length old) new)
    (Consumes-trans known a b old (appended_bytes old new) h k)

-- the head ends with a line that is not blank
pub head_found : (known left : Option (List ℕ)) (head : List ℕ) → Consumes known left head → list_any any_of head ≡ true
    → IfSome known (λ text. IsHeadOf text head left)
head_found None left head h found = tt
head_found (Some text) None head h found = absurd h
head_found (Some text) (Some rest) head h found = record {
  rest = rest;
  left_is = refl;
  begins = record {
    filled = ap (list_any any_of) h ∙ any_in any_of head rest found;
    parts = h;
    alike = alike_here head rest found ∙ ap are_lines (sym h);
  };
}

pub any_dropped : (n : ℕ) (xs : List ℕ) → list_any any_of (drop n xs) ≡ true → list_any any_of xs ≡ true
any_dropped zero xs h = h
any_dropped (suc n) [] h = h
any_dropped (suc n) (x ∷ xs) h = or_right (any_of x) (list_any any_of xs) (any_dropped n xs h)
