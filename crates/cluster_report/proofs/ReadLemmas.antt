-- A known input read to its end gives the state and the notes, and whether all lines are accepted.
use Rattle.std.proofs.Common.{◌≡◌, ℕ, ◌+◌, ◌<◌, Bool, true, false, ◌&&◌, List, [], ◌∷◌, ◌++◌, Option, Some, None, IfSome, is_none, length, arith, refl, sym, ap, subst, ◌∙◌}
use Rattle.std.specs.Io.BufRead.{take_through, drop_through}
use Rattle.std.specs.Io.KnownBytes.{Appends, IsAtEnd}
use Rattle.std.proofs.KnownBytes.{Appends-nil, Appends-trans}
use Rattle.std.proofs.Math.Bool.{and-true}
use Rattle.bm_base.specs.Machine.State.{State}
use Rattle.bm_lines.specs.Lines.{lines_of}
use Rattle.cluster_report.specs.LineNotes.{without_end, refusal_text, after_line, after_lines, all_accepted, note_text, notes_text}
use Rattle.cluster_report.proofs.LineLemmas.{lines_of-through}
use Rattle.bm_base.proofs.Options.{at_some}

-- ---- known bytes

-- ---- one line

-- what a read of a line leaves, and which line it is
pub record Reads (rest line : List ℕ) (left : Option (List ℕ)) : Type 0 where
  pub left_is : left ≡ Some (drop_through 10 rest)
  pub lines_are : lines_of rest ≡ without_end line ∷ lines_of (drop_through 10 rest)

pub reads_line : (o left : Option (List ℕ)) (rest old line : List ℕ) → o ≡ Some rest
    → IfSome o (λ xs. line ≡ old ++ take_through 10 xs) → IfSome o (λ xs. left ≡ Some (drop_through 10 xs))
    → old ≡ [] → 0 < length line → Reads rest line left
reads_line o left rest old line e taken dropped empty some =
    let line_is : line ≡ take_through 10 rest = at_some (λ xs. line ≡ old ++ take_through 10 xs) o rest e taken ∙ ap (λ t. t ++ take_through 10 rest) empty in
    record {
      left_is = at_some (λ xs. left ≡ Some (drop_through 10 xs)) o rest e dropped;
      lines_are = lines_of-through rest (not_empty rest (subst (λ t. 0 < length t) line_is some)) ∙ ap (λ t. without_end t ∷ lines_of (drop_through 10 rest)) (sym line_is);
    }
  where
    not_empty : (xs : List ℕ) → 0 < length (take_through 10 xs) → 0 < length xs
    not_empty [] h = h
    not_empty (x ∷ xs) h = omega arith

-- ---- the lines taken so far

-- The lines of an input before number n were taken, from the state M on: the rest of the input, and
-- what its lines add.
pub record LinesTaken (M : State) (start : Option (List ℕ)) (input : List ℕ) (n : ℕ) (N : State) (accepted : Bool) (now left : Option (List ℕ)) : Type 0 where
  pub rest : List ℕ
  pub left_is : left ≡ Some rest
  pub state : after_lines M (lines_of input) ≡ after_lines N (lines_of rest)
  pub all : all_accepted M (lines_of input) ≡ (accepted && all_accepted N (lines_of rest))
  pub noted : (new : Option (List ℕ)) → Appends now new (notes_text n N (lines_of rest)) → Appends start new (notes_text 1 M (lines_of input))

and_more : (a b c : Bool) → (a && (b && c)) ≡ ((a && b) && c)
and_more true b c = refl
and_more false b c = refl

-- whether all were accepted, with one more
pub both_where : (a is b : Bool) → a ≡ true → b ≡ is → b ≡ (a && is)
both_where true is b t e = e
both_where false is b t e = cc

pub neither_where : (a is b : Bool) → a ≡ false → b ≡ a → b ≡ (a && is)
neither_where true is b f e = cc
neither_where false is b f e = e

-- no note on a line that is accepted
pub not_noted : (n : ℕ) (what : Option (List ℕ)) (known : Option (List ℕ)) → what ≡ None → Appends known known (note_text n what)
unfolding note_text
not_noted n what known none = subst (λ w. Appends known known (note_text n w)) (sym none) (Appends-nil known)

-- one line more was taken
pub taken_line : (M N N' : State) (start now now' left left' : Option (List ℕ)) (input : List ℕ) (n : ℕ) (a is b : Bool) (read line : List ℕ)
    → (t : LinesTaken M start input n N a now left) → Reads t.rest read left' → line ≡ without_end read
    → N' ≡ after_line N line → is ≡ is_none (refusal_text N line) → b ≡ (a && is) → Appends now now' (note_text n (refusal_text N line))
    → LinesTaken M start input (n + 1) N' b now' left'
unfolding after_lines all_accepted notes_text
taken_line M N N' start now now' left left' input n a is b read line t reads line_is next refusal_is both note =
    let ls = lines_of (drop_through 10 t.rest) in
    let lines : lines_of t.rest ≡ line ∷ ls = reads.lines_are ∙ ap (λ l. l ∷ ls) (sym line_is) in
    record {
      rest = drop_through 10 t.rest;
      left_is = reads.left_is;
      state = t.state ∙ ap (after_lines N) lines ∙ ap (λ S. after_lines S ls) (sym next);
      all =
          t.all
          ∙ ap (λ xs. a && all_accepted N xs) lines
          ∙ and_more a (is_none (refusal_text N line)) (all_accepted (after_line N line) ls)
          ∙ ap (λ x. (a && x) && all_accepted (after_line N line) ls) (sym refusal_is)
          ∙ ap (λ x. x && all_accepted (after_line N line) ls) (sym both)
          ∙ ap (λ S. b && all_accepted S ls) (sym next);
      noted = λ new h.
          t.noted new
          (subst (λ xs. Appends now new (notes_text n N xs)) (sym lines)
          (Appends-trans now now' new (note_text n (refusal_text N line)) (notes_text (n + 1) (after_line N line) ls) note (subst (λ S. Appends now' new (notes_text (n + 1) S ls)) next h)));
    }

lines_of-none : lines_of [] ≡ []
unfolding lines_of
lines_of-none = refl

-- all lines are taken
pub record AllTaken (M : State) (start : Option (List ℕ)) (input : List ℕ) (N : State) (accepted : Bool) (now : Option (List ℕ)) : Type 0 where
  pub state : N ≡ after_lines M (lines_of input)
  pub all : accepted ≡ all_accepted M (lines_of input)
  pub noted : Appends start now (notes_text 1 M (lines_of input))

pub taken_all : (M N : State) (start now left : Option (List ℕ)) (input : List ℕ) (n : ℕ) (a : Bool) → LinesTaken M start input n N a now left → IsAtEnd left → AllTaken M start input N a now
unfolding after_lines all_accepted notes_text
taken_all M N start now left input n a t at_end =
    let none : lines_of t.rest ≡ [] = ap lines_of (subst IsAtEnd t.left_is at_end) ∙ lines_of-none in
    record {
      state = sym (t.state ∙ ap (after_lines N) none);
      all = sym (t.all ∙ ap (λ xs. a && all_accepted N xs) none ∙ and-true a);
      noted = t.noted now (subst (λ xs. Appends now now (notes_text n N xs)) (sym none) (Appends-nil now));
    }
