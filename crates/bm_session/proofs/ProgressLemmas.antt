-- After each step of a run, the lines answered so far are the first lines of the bytes read.
use Rattle.std.proofs.Common.{◌≡◌, ℕ, zero, suc, ◌+◌, ◌-◌, ◌<◌, ◌≤◌, ◌==◌, Bool, true, false, List, [], ◌∷◌, ◌++◌, length, take, refl, sym, ap, ◌∙◌, append_assoc, append-nil, add-one, arith, length-append, inl, inr, ◌⊎◌, if◌then◌else◌}
use Rattle.std.specs.Prelude.{Option, Result, Ok, Err, is_err, OnOk}
use Rattle.std.specs.Int.{from_bool}
use Rattle.std.specs.Io.KnownBytes.{Appends, Keeps}
use Rattle.std.proofs.lemmas.List.{length_push, take-append-le}
use Rattle.std.proofs.KnownBytes.{Appends-nil, Appends-trans, Appends-kept}
use Rattle.bm_base.specs.Machine.State.{State}
use Rattle.bm_session.specs.declared.limits.TheConstants.{MAX_LINES}
use Rattle.bm_session.specs.declared.session.Session.{Session}
use Rattle.bm_answers.specs.declared.line_answer.Request.{Request}
use Rattle.bm_answers.specs.OneLine.{asked, answer_to, asked_next, text_of, is_refusal, line_text, line_next, line_refused}
use Rattle.bm_session.specs.declared.fault.Fault.{Fault}
use Rattle.bm_session.specs.declared.fault.Fault.TheVariants.{Config, Read, Write, Memory, TooMuch}
use Rattle.bm_lines.specs.Lines.{line_end, onto, onto_whole, IsPart, ended, lines_of, whole_lines}
use Rattle.bm_session.specs.Text.{texts, after, refusals}
use Rattle.bm_lines.specs.LineBuffer.{Holds}
use Rattle.bm_session.specs.Progress.{Progress, Answered, MayBeWorked, Interrupted, Overflows, LineFault, PieceFault, IsSummary}
use Rattle.bm_session.proofs.LineLemmas.{rest_line, lines_of-first, IsPart-append, splits_none, splits_part, splits_end, lines_of-split, whole_lines-split, lines_of-begin, whole_lines-begin}
use Rattle.bm_session.proofs.TextLemmas.{texts-push, after-push, refusals-push}

-- ---- calls that did not fail

-- a fact about success, if a call did not fail
pub at_success : {T E P : Type 0} (r : Result T E) (b : Bool) → b ≡ is_err r → b ≡ false → OnOk r P → P
at_success (Ok x) b e f p = p
at_success (Err x) b e f p = absurd (cc (e, f))

-- ---- progress

pub progress_none : (M : State) (start : Option (List ℕ)) (s : Session) → Holds s.line [] → s.manager ≡ M → s.lines ≡ 0 → s.refused ≡ 0 → Progress M start start s []
unfolding texts after refusals
progress_none M start s empty first lines refused = record {
  lines = [];
  rest = [];
  splits = splits_none;
  holds = empty;
  state = first;
  wrote = Appends-nil start;
  count = lines;
  refused = refused;
  begun = λ h. absurd (omega arith);
}

-- after a line end, the line was answered
pub progress_end : (M : State) (start old new : Option (List ℕ)) (s t : Session) (bytes : List ℕ) (a : Request) → Progress M start old s bytes
    → ((rest : List ℕ) → Holds s.line rest → a ≡ asked rest) → Appends old new (ended (text_of (answer_to s.manager a))) → t.manager ≡ asked_next s.manager a
    → t.lines ≡ s.lines + 1 → t.refused ≡ s.refused + (if is_refusal (answer_to s.manager a) then 1 else 0) → Holds t.line [] → Progress M start new t (bytes ++ line_end ∷ [])
unfolding line_text line_next line_refused
progress_end M start old new s t bytes a p ask wrote next lines refused empty =
    let e : a ≡ asked p.rest = ask p.rest p.holds in
    record {
      lines = p.lines ++ p.rest ∷ [];
      rest = [];
      splits = splits_end p.splits;
      holds = empty;
      state = rw after-push (rw (← p.state, ← e) next);
      wrote = rw texts-push (Appends-trans start old new _ _ p.wrote (rw (← p.state, ← e) wrote));
      count = omega (arith, p.count, length_push p.lines p.rest);
      refused = rw refusals-push (rw (← p.state, ← e, ← p.refused) refused);
      begun = λ h. absurd (omega arith);
    }

-- after bytes without a line end
pub progress_part : (M : State) (start now : Option (List ℕ)) (s t : Session) (bytes part : List ℕ) → Progress M start now s bytes → IsPart part
    → s.lines < MAX_LINES → ((rest : List ℕ) → Holds s.line rest → Holds t.line (rest ++ part))
    → t.manager ≡ s.manager → t.lines ≡ s.lines → t.refused ≡ s.refused → Progress M start now t (bytes ++ part)
progress_part M start now s t bytes part p no_end few holds manager lines refused = record {
  lines = p.lines;
  rest = p.rest ++ part;
  splits = splits_part p.splits part no_end;
  holds = holds p.rest p.holds;
  state = manager ∙ p.state;
  wrote = p.wrote;
  count = lines ∙ p.count;
  refused = refused ∙ p.refused;
  begun = λ h. omega (arith, p.count);
}

take_front : (xs ys : List (List ℕ)) → take (length xs) (xs ++ ys) ≡ xs
take_front [] ys = refl
take_front (x ∷ xs) ys = ap (λ zs. x ∷ zs) (take_front xs ys)

-- if a run stops, the lines answered so far are the first ones
pub progress_answered : (M : State) (start now : Option (List ℕ)) (s : Session) (done piece : List ℕ) → (p : Progress M start now s done) → Answered M start now done piece (length p.lines)
progress_answered M start now s done piece p = record {
  no_fewer = omega (arith, ap length (whole_lines-split p.splits));
  no_more = omega (arith, ap length (whole_lines-begin p.splits piece), length-append p.lines (whole_lines (p.rest ++ piece)));
  wrote = rw (whole_lines-begin p.splits piece, take_front p.lines _) p.wrote;
}

-- no further line was begun
pub progress_interrupted : (M : State) (start now : Option (List ℕ)) (s : Session) (done piece : List ℕ) → Progress M start now s done → Interrupted M start now s.manager done piece
progress_interrupted M start now s done piece p = record {
  answered = length p.lines;
  written = progress_answered M start now s done piece p;
  worked = inl (rw (lines_of-begin p.splits piece, take_front p.lines _) p.state);
}

take_next : (ls : List (List ℕ)) (l : List ℕ) (more : List (List ℕ)) → take (suc (length ls)) (ls ++ l ∷ more) ≡ ls ++ l ∷ []
take_next [] l more = refl
take_next (x ∷ ls) l more = ap (λ zs. x ∷ zs) (take_next ls l more)

worked_line : (M : State) (ls : List (List ℕ)) (l : List ℕ) (more : List (List ℕ)) (s now : State) → s ≡ after M ls → MayBeWorked s l now
    → (now ≡ after M (take (length ls) (ls ++ l ∷ more))) ⊎ (now ≡ after M (take (length ls + 1) (ls ++ l ∷ more)))
worked_line M ls l more s now e (inl same) = inl (rw take_front (same ∙ e))
worked_line M ls l more s now e (inr next) = inr (rw (add-one, take_next ls l more, after-push) (next ∙ ap (λ x. line_next x l) e))

lines_of-end : (rest more : List ℕ) → IsPart rest → lines_of (rest ++ line_end ∷ more) ≡ rest ∷ lines_of more
lines_of-end rest more p = rw append_assoc at (lines_of-first rest more p)

-- the current line is the next one that ends in the piece
pub interrupted_line : (M : State) (start now : Option (List ℕ)) (s : Session) (state : State) (done part more : List ℕ) → (p : Progress M start now s done) → IsPart part → MayBeWorked s.manager (p.rest ++ part) state
    → Interrupted M start now state done (part ++ line_end ∷ more)
interrupted_line M start now s state done part more p no_end h = record {
  answered = length p.lines;
  written = progress_answered M start now s done (part ++ line_end ∷ more) p;
  worked = rw (lines_of-begin p.splits (part ++ line_end ∷ more), ← append_assoc p.rest part (line_end ∷ more), lines_of-end (p.rest ++ part) more (IsPart-append p.rest part p.splits.partial no_end))
      (worked_line M p.lines (p.rest ++ part) (lines_of more) s.manager state p.state h);
}

nonempty_line : (r : List ℕ) → (r ≡ [] → ⊥) → rest_line r ≡ r ∷ []
nonempty_line [] h = absurd (h refl)
nonempty_line (x ∷ r) h = refl

-- the current line is the rest of the input
pub interrupted_rest : (M : State) (start now : Option (List ℕ)) (s : Session) (state : State) (done : List ℕ) → (p : Progress M start now s done) → (p.rest ≡ [] → ⊥) → MayBeWorked s.manager p.rest state
    → Interrupted M start now state done []
interrupted_rest M start now s state done p some h = record {
  answered = length p.lines;
  written = progress_answered M start now s done [] p;
  worked = rw (append-nil, lines_of-split p.splits, nonempty_line p.rest some) (worked_line M p.lines p.rest [] s.manager state p.state h);
}

pub may_be_worked : (M : State) (a : Request) (line : List ℕ) (now : State) → a ≡ asked line → (now ≡ M) ⊎ (now ≡ asked_next M a) → MayBeWorked M line now
unfolding line_next
may_be_worked M a line now e h = rw (← e) h

-- a line that was not answered leaves the output unchanged
pub piece_fault_of_line : (M : State) (start old new : Option (List ℕ)) (state : State) (done piece : List ℕ) (before now : ℕ) (f : Fault) → LineFault old new before now f → Interrupted M start old state done piece
    → PieceFault M start new state done piece before now f
piece_fault_of_line M start old new state done piece before now Config h s = absurd h
piece_fault_of_line M start old new state done piece before now Read h s = absurd h
piece_fault_of_line M start old new state done piece before now Write h s = h
piece_fault_of_line M start old new state done piece before now Memory h s = (h.0, rw h.1 s)
piece_fault_of_line M start old new state done piece before now TooMuch h s = absurd h

begins : (xs : List ℕ) → 0 < length xs → 0 < length (lines_of xs)
unfolding lines_of
begins [] h = absurd (omega arith)
begins (x ∷ xs) h = first_line (lines_of xs) (x == line_end)
  where
    first_line : (ls : List (List ℕ)) (b : Bool) → 0 < length (if b then [] ∷ ls else onto x ls)
    first_line ls true = omega arith
    first_line [] false = omega arith
    first_line (l ∷ ls) false = omega arith

pub one_if : (b : Bool) → from_bool b ≡ (if b then 1 else 0)
one_if true = refl
one_if false = refl

-- too many lines: the maximum number is answered, and there are more bytes
pub progress_overflows : (M : State) (start now : Option (List ℕ)) (s : Session) (bytes more : List ℕ) → Progress M start now s bytes → s.lines ≡ MAX_LINES → 0 < length more → Overflows M start now (bytes ++ more)
progress_overflows M start now s bytes more p full some =
    let all : length p.lines ≡ MAX_LINES = sym p.count ∙ full in (
      rw (lines_of-begin p.splits more) (omega (arith, length-append p.lines (lines_of (p.rest ++ more)), all, begins (p.rest ++ more) (omega (arith, length-append p.rest more)))),
      rw (whole_lines-begin p.splits more, take_all p.lines _ MAX_LINES all) p.wrote,
    )
  where
    take_all : (xs ys : List (List ℕ)) (n : ℕ) → length xs ≡ n → take n (xs ++ ys) ≡ xs
    take_all xs ys n e = rw (← e) (take_front xs ys)

-- ---- the end

-- the rest was answered as a line
pub lines_of-ended : (M : State) (start old new : Option (List ℕ)) (s t : Session) (bytes : List ℕ) (p : Progress M start old s bytes) → (p.rest ≡ [] → ⊥)
    → (q : Progress M start new t (bytes ++ line_end ∷ [])) → lines_of bytes ≡ q.lines
lines_of-ended M start old new s t bytes p some q =
    lines_of-split p.splits ∙ (ap (λ r. p.lines ++ r) (nonempty_line p.rest some) ∙ (sym (whole_lines-split (splits_end p.splits)) ∙ whole_lines-split q.splits))

-- there was no rest
pub lines_of-empty : (M : State) (start now : Option (List ℕ)) (s : Session) (bytes : List ℕ) (p : Progress M start now s bytes) → p.rest ≡ [] → lines_of bytes ≡ p.lines
lines_of-empty M start now s bytes p none = lines_of-split p.splits ∙ rw none (append-nil p.lines)

pub finished : (M : State) (start old new : Option (List ℕ)) (t : Session) (bytes : List ℕ) (q : Progress M start old t bytes) (ls : List (List ℕ)) → ls ≡ q.lines → Keeps old new
    → Appends start new (texts M ls) × IsSummary M ls (record { lines = t.lines; accepted = t.lines - t.refused; refused = t.refused })
finished M start old new t bytes q ls e keeps = (
  rw e (Appends-kept start old new _ q.wrote keeps),
  record { lines_read = rw e q.count; lines_few = t.few; lines_refused = rw e q.refused; lines_accepted = omega (arith, t.counted) },
)

pub positive : (n : ℕ) → (n == 0) ≡ false → 0 < n
positive zero e = absurd (cc e)
positive (suc n) e = omega arith

-- ---- more bytes

pub whole_lines-more : (a b : List ℕ) → (ys : List (List ℕ)) × (whole_lines (a ++ b) ≡ whole_lines a ++ ys)
unfolding whole_lines
whole_lines-more [] b = (whole_lines b, refl)
whole_lines-more (x ∷ a) b = let h = whole_lines-more a b in rw h.1 (with_byte (x == line_end) (whole_lines a) h.0)
  where
    with_byte : (e : Bool) (ls ys : List (List ℕ)) → (zs : List (List ℕ)) × ((if e then [] ∷ (ls ++ ys) else onto_whole x (ls ++ ys)) ≡ (if e then [] ∷ ls else onto_whole x ls) ++ zs)
    with_byte true ls ys = (ys, refl)
    with_byte false [] ys = (onto_whole x ys, refl)
    with_byte false (l ∷ ls) ys = (ys, refl)

length_more : (a b : List ℕ) → length (whole_lines a) ≤ length (whole_lines (a ++ b))
length_more a b = let h = whole_lines-more a b in omega (arith, ap length h.1, length-append (whole_lines a) h.0)

-- a longer piece
pub answered_more : (M : State) (start now : Option (List ℕ)) (done piece more : List ℕ) (n : ℕ) → Answered M start now done piece n → Answered M start now done (piece ++ more) n
answered_more M start now done piece more n s =
    let h = whole_lines-more (done ++ piece) more in
    record {
      no_fewer = s.no_fewer;
      no_more = rw (← append_assoc) (omega (arith, s.no_more, length_more (done ++ piece) more));
      wrote = rw (← append_assoc, h.1, take-append-le n (whole_lines (done ++ piece)) h.0 s.no_more) s.wrote;
    }

-- a piece that begins earlier
answered_earlier : (M : State) (start now : Option (List ℕ)) (done taken left : List ℕ) (n : ℕ) → Answered M start now (done ++ taken) left n → Answered M start now done (taken ++ left) n
answered_earlier M start now done taken left n s = record {
  no_fewer = omega (arith, s.no_fewer, length_more done taken);
  no_more = rw (← append_assoc) s.no_more;
  wrote = rw (← append_assoc) s.wrote;
}

interrupted_earlier : (M : State) (start now : Option (List ℕ)) (state : State) (done taken left : List ℕ) → Interrupted M start now state (done ++ taken) left
    → Interrupted M start now state done (taken ++ left)
interrupted_earlier M start now state done taken left s = record {
  answered = s.answered;
  written = answered_earlier M start now done taken left s.answered s.written;
  worked = rw (← append_assoc) s.worked;
}

pub fault_earlier : (M : State) (start new : Option (List ℕ)) (state : State) (done taken left : List ℕ) (before now : ℕ) (f : Fault) → PieceFault M start new state (done ++ taken) left before now f
    → PieceFault M start new state done (taken ++ left) before now f
fault_earlier M start new state done taken left before now Config h = absurd h
fault_earlier M start new state done taken left before now Read h = absurd h
fault_earlier M start new state done taken left before now Write h = h
fault_earlier M start new state done taken left before now Memory h = (h.0, interrupted_earlier M start new state done taken left h.1)
fault_earlier M start new state done taken left before now TooMuch h = (h.0, rw (← append_assoc) h.1)

-- ---- limits

one_rest : (r : List ℕ) → (length (rest_line r) ≡ 0) ⊎ ((length (rest_line r) ≡ 1) × (0 < length r))
one_rest [] = inl refl
one_rest (x ∷ r) = inr (refl, omega arith)

few_by : (n k : ℕ) (r : List ℕ) → n ≤ MAX_LINES → (0 < length r → n < MAX_LINES) → k ≡ n + length (rest_line r) → (length (rest_line r) ≡ 0) ⊎ ((length (rest_line r) ≡ 1) × (0 < length r)) → k ≤ MAX_LINES
few_by n k r few begun e (inl none) = omega (arith, none)
few_by n k r few begun e (inr h) = omega (arith, h.0, begun h.1)

-- no more than the maximum number of lines is read, including the current one
pub few_lines : {M : State} {start now : Option (List ℕ)} {s : Session} {bytes : List ℕ} → Progress M start now s bytes → length (lines_of bytes) ≤ MAX_LINES
few_lines {s = s} {bytes = bytes} p =
    few_by (length p.lines) (length (lines_of bytes)) p.rest (omega (arith, p.count, s.few)) p.begun
    (ap length (lines_of-split p.splits) ∙ length-append p.lines (rest_line p.rest)) (one_rest p.rest)
