-- Reading a known text gives the state after all lines; a refusal is of its first refused line.
use Rattle.std.proofs.Common.{◌≡◌, ℕ, ◌+◌, ◌<◌, [], ◌∷◌, ◌++◌, Option, Some, IfSome, Result, Ok, length, arith, refl, sym, ap, subst, ◌∙◌}
use Rattle.std.specs.Io.BufRead.{take_through, drop_through}
use Rattle.std.specs.Io.KnownBytes.{IsAtEnd}
use Rattle.bm_lines.specs.Lines.{lines_of}
use Rattle.fsck_text.specs.Cuts.{Text}
use Rattle.fsck_text.specs.Wrongs.{after_ok}
use Rattle.fsck_import.specs.Lines.{after_bytes, after_lines, at_line, without_end, IsReadFault}
use Rattle.fsck_import.specs.declared.fault.Cause.{Cause}
use Rattle.fsck_import.specs.declared.fault.Unread.{Unread}
use Rattle.fsck_import.specs.declared.fault.Fault.{Fault}
use Rattle.fsck_import.specs.declared.fault.Fault.TheVariants as fault
use Rattle.fsck_import.proofs.TextLemmas.{lines_of-through}
use Rattle.bm_base.proofs.Options.{at_some}

lines_of-none : lines_of [] ≡ []
unfolding lines_of
lines_of-none = refl

-- what a read of a line leaves, and which line it is
pub record Reads (rest line : Text) (left : Option Text) : Type 0 where
  pub left_is : left ≡ Some (drop_through 10 rest)
  pub lines_are : lines_of rest ≡ without_end 10 line ∷ lines_of (drop_through 10 rest)

pub reads_line : (o left : Option Text) (rest old line : Text) → o ≡ Some rest
    → IfSome o (λ xs. line ≡ old ++ take_through 10 xs) → IfSome o (λ xs. left ≡ Some (drop_through 10 xs))
    → old ≡ [] → 0 < length line → Reads rest line left
reads_line o left rest old line e taken dropped empty some =
    let line_is : line ≡ take_through 10 rest = at_some (λ xs. line ≡ old ++ take_through 10 xs) o rest e taken ∙ ap (λ t. t ++ take_through 10 rest) empty in
    record {
      left_is = at_some (λ xs. left ≡ Some (drop_through 10 xs)) o rest e dropped;
      lines_are = lines_of-through rest (not_empty rest (subst (λ t. 0 < length t) line_is some)) ∙ ap (λ t. without_end 10 t ∷ lines_of (drop_through 10 rest)) (sym line_is);
    }
  where
    not_empty : (xs : Text) → 0 < length (take_through 10 xs) → 0 < length xs
    not_empty [] h = h
    not_empty (x ∷ xs) h = omega arith

pub still_refused : {A B : Type 0} (f : Fault) (g : A → Result B Unread) (r : Result A Unread) → IsReadFault f r → IsReadFault f (after_ok g r)
still_refused (fault.Refused unread) g r h = ap (after_ok g) h
still_refused fault.Memory g r h = h
still_refused (fault.Read error) g r h = h
still_refused (fault.Write error) g r h = h
still_refused fault.Table g r h = h
still_refused fault.LongReport g r h = h

module _ {T : Type 0} (after : T → Text → Result T Cause) where
  -- at the end of the text no line is left
  pub end_read : (o : Option Text) (rest : Text) (n : ℕ) (s : T) → o ≡ Some rest → IsAtEnd o → after_lines after n s (lines_of rest) ≡ Ok (s, n)
  end_read o rest n s e h =
      let empty : rest ≡ [] = subst IsAtEnd e h in
      ap (λ t. after_lines after n s (lines_of t)) empty ∙ ap (after_lines after n s) lines_of-none

  -- the remaining lines after one was taken
  pub read_more : (n : ℕ) (s d : T) (rest line read : Text) (left : Option Text) → Reads rest read left → line ≡ without_end 10 read → at_line n (after_bytes after s line) ≡ Ok d
      → after_lines after n s (lines_of rest) ≡ after_lines after (n + 1) d (lines_of (drop_through 10 rest))
  read_more n s d rest line read left reads line_is taken =
      ap (after_lines after n s) reads.lines_are
      ∙ ap (λ t. after_ok (λ e. after_lines after (n + 1) e (lines_of (drop_through 10 rest))) (at_line n (after_bytes after s t))) (sym line_is)
      ∙ ap (after_ok (λ e. after_lines after (n + 1) e (lines_of (drop_through 10 rest)))) taken

  -- if a line is refused, the text is
  pub refused_more : (f : Fault) (n : ℕ) (s : T) (rest line read : Text) (left : Option Text) → Reads rest read left → line ≡ without_end 10 read → IsReadFault f (at_line n (after_bytes after s line))
      → IsReadFault f (after_lines after n s (lines_of rest))
  refused_more f n s rest line read left reads line_is refused =
      subst (IsReadFault f)
      (sym (ap (after_lines after n s) reads.lines_are
      ∙ ap (λ t. after_ok (λ e. after_lines after (n + 1) e (lines_of (drop_through 10 rest))) (at_line n (after_bytes after s t))) (sym line_is)))
      (still_refused f (λ e. after_lines after (n + 1) e (lines_of (drop_through 10 rest))) _ refused)
