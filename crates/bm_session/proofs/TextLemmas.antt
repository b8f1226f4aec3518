-- One more line appends its answer, and counts one more refusal if it is refused.
use Rattle.std.proofs.Common.{◌≡◌, ℕ, ◌+◌, List, [], ◌∷◌, ◌++◌, refl, sym, append_assoc, append-nil, arith, if◌then◌else◌}
use Rattle.bm_base.specs.Machine.State.{State}
use Rattle.bm_lines.specs.Lines.{ended}
use Rattle.bm_answers.specs.OneLine.{line_text, line_next, line_refused}
use Rattle.bm_session.specs.Text.{texts, after, refusals}

pub texts-push : (M : State) (ls : List (List ℕ)) (l : List ℕ) → texts M (ls ++ l ∷ []) ≡ texts M ls ++ ended (line_text (after M ls) l)
unfolding texts after
texts-push M [] l = append-nil _
texts-push M (x ∷ ls) l = rw (texts-push (line_next M x) ls l) (sym (append_assoc (ended (line_text M x)) _ _))

pub after-push : (M : State) (ls : List (List ℕ)) (l : List ℕ) → after M (ls ++ l ∷ []) ≡ line_next (after M ls) l
unfolding after
after-push M [] l = refl
after-push M (x ∷ ls) l = after-push (line_next M x) ls l

pub refusals-push : (M : State) (ls : List (List ℕ)) (l : List ℕ) → refusals M (ls ++ l ∷ []) ≡ refusals M ls + (if line_refused (after M ls) l then 1 else 0)
unfolding refusals after
refusals-push M [] l = omega arith
refusals-push M (x ∷ ls) l = omega (arith, refusals-push (line_next M x) ls l)
