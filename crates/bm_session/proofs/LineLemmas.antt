-- Splitting bytes piece by piece gives the lines of the whole, and a rest without a line end.
use Rattle.std.proofs.Common.{◌≡◌, ℕ, List, [], ◌∷◌, ◌++◌, refl, sym, ap, ◌∙◌, append_assoc, append-nil}
use Rattle.std.specs.List.{flat_map, AllByRecursion}
use Rattle.std.proofs.lemmas.List.Concat.{flat_map-append}
use Rattle.bm_lines.specs.Lines.{line_end, onto, lines_of, whole_lines, IsPart, ended, Splits}

-- the rest as a line, if it is not empty
abbrev pub rest_line : List ℕ → List (List ℕ)
rest_line [] = []
rest_line (b ∷ bs) = (b ∷ bs) ∷ []

pub lines_of-first : (l more : List ℕ) → IsPart l → lines_of (ended l ++ more) ≡ l ∷ lines_of more
unfolding lines_of
lines_of-first [] more p = refl
lines_of-first (b ∷ l) more p = rw (p.0, lines_of-first l more p.1) refl

pub whole_lines-first : (l more : List ℕ) → IsPart l → whole_lines (ended l ++ more) ≡ l ∷ whole_lines more
unfolding whole_lines
whole_lines-first [] more p = refl
whole_lines-first (b ∷ l) more p = rw (p.0, whole_lines-first l more p.1) refl

pub lines_of-part : (r : List ℕ) → IsPart r → lines_of r ≡ rest_line r
unfolding lines_of
lines_of-part [] p = refl
lines_of-part (b ∷ r) p = rw (p.0, lines_of-part r p.1) (onto-rest r)
  where
    onto-rest : (r : List ℕ) → onto b (rest_line r) ≡ (b ∷ r) ∷ []
    onto-rest [] = refl
    onto-rest (x ∷ r) = refl

pub whole_lines-part : (r : List ℕ) → IsPart r → whole_lines r ≡ []
unfolding whole_lines
whole_lines-part [] p = refl
whole_lines-part (b ∷ r) p = rw (p.0, whole_lines-part r p.1) refl

pub lines_of-front : (ls : List (List ℕ)) (more : List ℕ) → AllByRecursion IsPart ls → lines_of (flat_map ended ls ++ more) ≡ ls ++ lines_of more
lines_of-front [] more p = refl
lines_of-front (l ∷ ls) more p = rw (append_assoc (ended l) (flat_map ended ls) more) (lines_of-first l _ p.0 ∙ ap (λ xs. l ∷ xs) (lines_of-front ls more p.1))

pub whole_lines-front : (ls : List (List ℕ)) (more : List ℕ) → AllByRecursion IsPart ls → whole_lines (flat_map ended ls ++ more) ≡ ls ++ whole_lines more
whole_lines-front [] more p = refl
whole_lines-front (l ∷ ls) more p = rw (append_assoc (ended l) (flat_map ended ls) more) (whole_lines-first l _ p.0 ∙ ap (λ xs. l ∷ xs) (whole_lines-front ls more p.1))

pub IsPart-append : (a b : List ℕ) → IsPart a → IsPart b → IsPart (a ++ b)
IsPart-append [] b p q = q
IsPart-append (x ∷ a) b p q = (p.0, IsPart-append a b p.1 q)

-- the lines of all bytes, if the bytes at the front are split
module _ {bytes rest : List ℕ} {lines : List (List ℕ)} (splits : Splits bytes lines rest) where
  pub lines_of-split : lines_of bytes ≡ lines ++ rest_line rest
  lines_of-split = rw splits.whole (lines_of-front lines rest splits.each ∙ ap (λ xs. lines ++ xs) (lines_of-part rest splits.partial))

  pub whole_lines-split : whole_lines bytes ≡ lines
  whole_lines-split = rw splits.whole (whole_lines-front lines rest splits.each ∙ (ap (λ xs. lines ++ xs) (whole_lines-part rest splits.partial) ∙ append-nil lines))

  pub whole_lines-begin : (more : List ℕ) → whole_lines (bytes ++ more) ≡ lines ++ whole_lines (rest ++ more)
  whole_lines-begin more = rw (splits.whole, append_assoc (flat_map ended lines) rest more) (whole_lines-front lines (rest ++ more) splits.each)

  pub lines_of-begin : (more : List ℕ) → lines_of (bytes ++ more) ≡ lines ++ lines_of (rest ++ more)
  lines_of-begin more = rw (splits.whole, append_assoc (flat_map ended lines) rest more) (lines_of-front lines (rest ++ more) splits.each)

  -- more bytes follow, without a line end
  pub splits_part : (part : List ℕ) → IsPart part → Splits (bytes ++ part) lines (rest ++ part)
  splits_part part p = record {
    whole = rw (splits.whole, append_assoc (flat_map ended lines) rest part) refl;
    each = splits.each;
    partial = IsPart-append rest part splits.partial p;
  }

  -- a line end follows
  pub splits_end : Splits (bytes ++ line_end ∷ []) (lines ++ rest ∷ []) []
  splits_end = record {
    whole = rw (splits.whole, flat_map-append ended lines (rest ∷ [])) (append_assoc (flat_map ended lines) rest (line_end ∷ []) ∙ (ap (λ xs. flat_map ended lines ++ xs) (sym (append-nil (ended rest))) ∙ sym (append-nil (flat_map ended lines ++ flat_map ended (rest ∷ [])))));
    each = all_push lines splits.each;
    partial = tt;
  }
    where
      all_push : (ls : List (List ℕ)) → AllByRecursion IsPart ls → AllByRecursion IsPart (ls ++ rest ∷ [])
      all_push [] p = (splits.partial, tt)
      all_push (l ∷ ls) p = (p.0, all_push ls p.1)

pub splits_none : Splits [] [] []
splits_none = record { whole = refl; each = tt; partial = tt }
