-- A run's result follows from the bytes that it read, up to the limit, and its last piece's fault.
use Rattle.std.proofs.Common.{◌≡◌, ℕ, Bool, true, zero, suc, ◌+◌, ◌<◌, ◌≤◌, List, [], ◌∷◌, ◌++◌, length, take, drop, refl, ap, ◌∙◌, append-nil, arith, inl, inr}
use Rattle.std.specs.Prelude.{Option, Some, None, Result, Ok, Err, IfOk, IfErr, IfSome, OnOk}
use Rattle.std.specs.Io.KnownBytes.{Appends, Consumes, IsAtEnd}
use Rattle.std.proofs.lemmas.List.{take-append-drop, take_all}
use Rattle.std.proofs.lemmas.Result.{IfOk-weaker, IfErr-weaker, MatchResult-from_both}
use Rattle.std.proofs.Math.Seq.{take-append-add}
use Rattle.std.proofs.KnownBytes.{Appends-nil}
use Rattle.bm_base.specs.declared.config.Config.{Config}
use Rattle.bm_base.specs.Words.{State, first_state, config_refusal}
use Rattle.bm_session.specs.declared.limits.TheConstants.{MAX_LINES, MAX_BYTES, PIECE}
use Rattle.bm_session.specs.declared.session.Session.{Session}
use Rattle.bm_session.specs.declared.fault.Summary.{Summary}
use Rattle.bm_session.specs.declared.fault.Fault.{Fault}
use Rattle.bm_session.specs.declared.fault.Fault.TheVariants as fault
use Rattle.bm_lines.specs.Lines.{lines_of, whole_lines}
use Rattle.bm_session.specs.Text.{texts, text}
use Rattle.bm_session.specs.StartFaults.{StartFault}
use Rattle.bm_session.specs.Progress.{Progress, PieceFault, IsSummary}
use Rattle.bm_session.specs.Outcome.{Faulted, Leaves, FaultCounts, HasCause, ConfigOfFault, ChecksConfig}
use Rattle.bm_session.proofs.LineLemmas.{whole_lines-split}
use Rattle.bm_session.proofs.ProgressLemmas.{answered_more}

-- ---- parts of lists

pub take-take : (m n : ℕ) (xs : List ℕ) → m ≤ n → take m (take n xs) ≡ take m xs
take-take zero n xs h = refl
take-take (suc m) zero xs h = absurd (omega arith)
take-take (suc m) (suc n) [] h = refl
take-take (suc m) (suc n) (x ∷ xs) h = ap (λ ys. x ∷ ys) (take-take m n xs (omega arith))

-- the bytes that are taken of a piece: all that fit within the limit
pub take_within : (xs ys : List ℕ) (most bytes_left n : ℕ) → length xs + bytes_left ≡ most → bytes_left ≤ n → take most (xs ++ take n ys) ≡ xs ++ take bytes_left ys
take_within xs ys most bytes_left n e h = rw (← e, take-append-add xs (take n ys) bytes_left, take-take bytes_left n ys h) refl

-- ---- the outcome

-- a run that did not begin has read and written nothing
pub faulted_at_start : (config : Config) (last : ℕ) (old : Option (List ℕ)) (f : Fault) → StartFault config f → Faulted config [] last old old f
unfolding texts whole_lines
faulted_at_start config last old fault.Config h = (refl, refl)
faulted_at_start config last old fault.Read h = absurd h
faulted_at_start config last old fault.Write h = tt
faulted_at_start config last old fault.Memory h = record {
  done = [];
  piece = [];
  read = refl;
  is_last = omega arith;
  bounded = omega arith;
  answered = 0;
  written = record { no_fewer = omega arith; no_more = omega arith; wrote = Appends-nil old };
}
faulted_at_start config last old fault.TooMuch h = absurd h

pub counts_at_start : (config : Config) (reads writes : ℕ) (f : Fault) → StartFault config f → FaultCounts reads reads writes writes f
counts_at_start config reads writes fault.Config h = (refl, refl)
counts_at_start config reads writes fault.Read h = absurd h
counts_at_start config reads writes fault.Write h = absurd h
counts_at_start config reads writes fault.Memory h = (refl, refl)
counts_at_start config reads writes fault.TooMuch h = absurd h

pub config_at_start : (config : Config) (f : Fault) → StartFault config f → ConfigOfFault config f
config_at_start config fault.Config h = h
config_at_start config fault.Read h = absurd h
config_at_start config fault.Write h = absurd h
config_at_start config fault.Memory h = h
config_at_start config fault.TooMuch h = absurd h

-- the configuration of a run that began is valid
pub config_of_piece : (config : Config) (start new : Option (List ℕ)) (state : State) (done piece : List ℕ) (before now : ℕ) (f : Fault) → config_refusal config ≡ None
    → PieceFault (first_state config) start new state done piece before now f → ConfigOfFault config f
config_of_piece config start new state done piece before now fault.Config allowed h = absurd h
config_of_piece config start new state done piece before now fault.Read allowed h = allowed
config_of_piece config start new state done piece before now fault.Write allowed h = allowed
config_of_piece config start new state done piece before now fault.Memory allowed h = allowed
config_of_piece config start new state done piece before now fault.TooMuch allowed h = allowed

pub config_of_finished : (config : Config) (start new : Option (List ℕ)) (state : State) (done piece : List ℕ) (before now : ℕ) (result : Result Summary Fault) → config_refusal config ≡ None
    → IfErr result (PieceFault (first_state config) start new state done piece before now) → ChecksConfig config result
config_of_finished config start new state done piece before now (Ok s) allowed h = allowed
config_of_finished config start new state done piece before now (Err f) allowed h = config_of_piece config start new state done piece before now f allowed h

-- no read failed
pub flushed_at_start : (config : Config) (old new : Bool) (f : Fault) → StartFault config f → f ≡ fault.Read → old ≡ true → new ≡ true
flushed_at_start config old new fault.Config h e = cc
flushed_at_start config old new fault.Read h e = absurd h
flushed_at_start config old new fault.Write h e = absurd h
flushed_at_start config old new fault.Memory h e = cc
flushed_at_start config old new fault.TooMuch h e = absurd h

pub flushed_of_piece : (M : State) (start new : Option (List ℕ)) (state : State) (done piece : List ℕ) (before now : ℕ) (was is : Bool) (f : Fault) → PieceFault M start new state done piece before now f
    → f ≡ fault.Read → was ≡ true → is ≡ true
flushed_of_piece M start new state done piece before now was is fault.Config h e = absurd h
flushed_of_piece M start new state done piece before now was is fault.Read h e = absurd h
flushed_of_piece M start new state done piece before now was is fault.Write h e = cc
flushed_of_piece M start new state done piece before now was is fault.Memory h e = cc
flushed_of_piece M start new state done piece before now was is fault.TooMuch h e = cc

-- the bytes that were passed on are the first of the input
pub faulted_of_piece : (config : Config) (done piece more : List ℕ) (last : ℕ) (old new : Option (List ℕ)) (state : State) (before now : ℕ) (f : Fault) → take MAX_BYTES (done ++ (piece ++ more)) ≡ done ++ piece
    → length (piece ++ more) ≤ last → length (piece ++ more) ≤ PIECE → PieceFault (first_state config) old new state done piece before now f → Faulted config (done ++ (piece ++ more)) last old new f
faulted_of_piece config done piece more last old new state before now fault.Config t l b h = absurd h
faulted_of_piece config done piece more last old new state before now fault.Read t l b h = absurd h
faulted_of_piece config done piece more last old new state before now fault.Write t l b h = tt
faulted_of_piece config done piece more last old new state before now fault.Memory t l b h = record { done = done; piece = piece ++ more; read = refl; is_last = l; bounded = b; answered = h.1.answered; written = answered_more _ old new done piece more _ h.1.written }
faulted_of_piece config done piece more last old new state before now fault.TooMuch t l b h = (inr (rw t h.1.0), rw t h.1.1)

-- `faulted_of_piece` if all bytes were passed on
pub faulted_of_whole : (config : Config) (done piece : List ℕ) (last : ℕ) (old new : Option (List ℕ)) (state : State) (before now : ℕ) (f : Fault) → take MAX_BYTES (done ++ piece) ≡ done ++ piece
    → length piece ≤ last → length piece ≤ PIECE → PieceFault (first_state config) old new state done piece before now f → Faulted config (done ++ piece) last old new f
faulted_of_whole config done piece last old new state before now f t l b h =
    rw append-nil at (faulted_of_piece config done piece [] last old new state before now f (rw append-nil t) (rw append-nil l) (rw append-nil b) h)

pub counts_of_piece : (M : State) (start new : Option (List ℕ)) (state : State) (done piece : List ℕ) (reads reads' before now : ℕ) (f : Fault) → reads' ≡ reads → PieceFault M start new state done piece before now f
    → FaultCounts reads reads' before now f
counts_of_piece M start new state done piece reads reads' before now fault.Config e h = absurd h
counts_of_piece M start new state done piece reads reads' before now fault.Read e h = absurd h
counts_of_piece M start new state done piece reads reads' before now fault.Write e h = (e, h)
counts_of_piece M start new state done piece reads reads' before now fault.Memory e h = (e, h.0)
counts_of_piece M start new state done piece reads reads' before now fault.TooMuch e h = (e, h.0)

-- too many bytes: all lines of the bytes that are taken are answered
pub too_many_bytes : (config : Config) (all bytes : List ℕ) (last : ℕ) (old new : Option (List ℕ)) (s : Session) → take MAX_BYTES all ≡ bytes → MAX_BYTES < length all
    → Progress (first_state config) old new s bytes → Faulted config all last old new fault.TooMuch
too_many_bytes config all bytes last old new s t many p =
    (inl many, rw (t, whole_lines-split p.splits, take_all MAX_LINES p.lines (omega (arith, p.count, s.few))) p.wrote)

pub finished_leaves : (config : Config) (input : List ℕ) (last : ℕ) (left old new : Option (List ℕ)) (state : State) (before now : ℕ) (result : Result Summary Fault) → IsAtEnd left → length input ≤ MAX_BYTES
    → IfOk result (λ summary. Appends old new (texts (first_state config) (lines_of input)) × IsSummary (first_state config) (lines_of input) summary)
    → IfErr result (PieceFault (first_state config) old new state input [] before now) → Leaves config input left last old new result
finished_leaves config input last left old new state before now result at_end bounded ok err =
    MatchResult-from_both result _ _
    (IfOk-weaker result _ _ (λ summary h. record { at_end = at_end; bounded = bounded; wrote = h.0; counted = h.1 }) ok)
    (IfErr-weaker result _ _ (λ f h. rw append-nil at (faulted_of_piece config input [] [] last old new state before now f (rw append-nil (take_all MAX_BYTES input bounded)) (omega arith) (omega arith) h)) err)

pub finished_causes : (M : State) (start new : Option (List ℕ)) (state : State) (done piece : List ℕ) (reads reads' before now : ℕ) (result : Result Summary Fault) → reads' ≡ reads → OnOk result (now ≡ before)
    → IfErr result (PieceFault M start new state done piece before now) → HasCause reads reads' before now result
finished_causes M start new state done piece reads reads' before now result same ok err =
    MatchResult-from_both result _ _ (IfOk-weaker result _ _ (λ _ h. (same, h)) ok) (IfErr-weaker result _ _ (λ f h. counts_of_piece M start new state done piece reads reads' before now f same h) err)

pub take_split : (ys : List ℕ) (bytes_left n : ℕ) → bytes_left ≤ n → take n ys ≡ take bytes_left ys ++ drop bytes_left (take n ys)
take_split ys bytes_left n h = rw (← take-take bytes_left n ys h, take-append-drop) refl

-- all bytes that the reader had were read
pub text_of_known : (config : Config) (before left : Option (List ℕ)) (input : List ℕ) (old new : Option (List ℕ)) (result : Result Summary Fault) → Consumes before left input → IsAtEnd left
    → IfOk result (λ summary. Appends old new (texts (first_state config) (lines_of input)) × IsSummary (first_state config) (lines_of input) summary)
    → OnOk result (IfSome before (λ xs. Appends old new (text config xs)))
text_of_known config None left input old new result c e ok = IfOk-weaker result _ _ (λ _ _. tt) ok
text_of_known config (Some xs) None input old new result c e ok = absurd c
text_of_known config (Some xs) (Some ys) input old new result c e ok =
    let all : xs ≡ input = c ∙ rw e (append-nil input) in
    IfOk-weaker result _ _ (λ _ h. rw all h.0) ok
