-- The progress of a run, and the output when it ends.
use Rattle.std.specs.Prelude.{◌≡◌, ℕ, ◌+◌, ◌<◌, ◌≤◌, ◌⊎◌, List, ◌++◌, length, take, Option}
use Rattle.std.specs.Io.KnownBytes.{Appends}
use Rattle.bm_base.specs.Machine.State.{State}
use Rattle.bm_session.specs.declared.limits.TheConstants.{MAX_LINES}
use Rattle.bm_session.specs.declared.session.Session.{Session}
use Rattle.bm_session.specs.declared.fault.Summary.{Summary}
use Rattle.bm_session.specs.declared.fault.Fault.{Fault}
use Rattle.bm_session.specs.declared.fault.Fault.TheVariants.{Config, Read, Write, Memory, TooMuch}
use Rattle.bm_lines.specs.Lines.{Splits, lines_of, whole_lines}
use Rattle.bm_answers.specs.OneLine.{line_next}
use Rattle.bm_session.specs.Text.{texts, after, refusals}
use Rattle.bm_lines.specs.LineBuffer.{Holds}

-- the session has answered the whole lines of these bytes, from the state M on
pub record Progress (M : State) (start now : Option (List ℕ)) (s : Session) (bytes : List ℕ) : Type 0 where
  pub lines : List (List ℕ)
  pub rest : List ℕ
  pub splits : Splits bytes lines rest
  pub holds : Holds s.line rest
  pub state : s.manager ≡ after M lines
  pub wrote : Appends start now (texts M lines)
  pub count : s.lines ≡ length lines
  pub refused : s.refused ≡ refusals M lines
  pub begun : 0 < length rest → length lines < MAX_LINES

-- The first n lines are answered, each by a whole line, and no more is written. They are all lines
-- that ended before the piece, and a prefix of those that end in it.
pub record Answered (M : State) (start now : Option (List ℕ)) (done piece : List ℕ) (n : ℕ) : Type 0 where
  pub no_fewer : length (whole_lines done) ≤ n
  pub no_more : n ≤ length (whole_lines (done ++ piece))
  pub wrote : Appends start now (texts M (take n (whole_lines (done ++ piece))))

-- the state is that before the line, or that after it
abbrev pub MayBeWorked : State → List ℕ → State → Type 0
MayBeWorked M line now = (now ≡ M) ⊎ (now ≡ line_next M line)

-- Out of memory within the piece. The processed lines are the answered ones, and at most the next
-- one, at which the call was out of memory. So no answer to an earlier line is lost.
pub record Interrupted (M : State) (start now : Option (List ℕ)) (state : State) (done piece : List ℕ) : Type 0 where
  pub answered : ℕ
  pub written : Answered M start now done piece answered
  pub worked : (state ≡ after M (take answered (lines_of (done ++ piece)))) ⊎ (state ≡ after M (take (answered + 1) (lines_of (done ++ piece))))

-- there are too many lines, and the maximum number is answered
abbrev pub Overflows : State → Option (List ℕ) → Option (List ℕ) → List ℕ → Type 0
Overflows M start now bytes = (MAX_LINES < length (lines_of bytes)) × Appends start now (texts M (take MAX_LINES (whole_lines bytes)))

-- why a line was not answered: the failures of the writer and what it holds, before and after
abbrev pub LineFault : Option (List ℕ) → Option (List ℕ) → ℕ → ℕ → Fault → Type 0
LineFault old new before now Config = ⊥
LineFault old new before now Read = ⊥
LineFault old new before now Write = now ≡ before + 1
LineFault old new before now Memory = (now ≡ before) × (new ≡ old)
LineFault old new before now TooMuch = ⊥

-- why a piece after these bytes was not all taken
abbrev pub PieceFault : State → Option (List ℕ) → Option (List ℕ) → State → List ℕ → List ℕ → ℕ → ℕ → Fault → Type 0
PieceFault M start new state done piece before now Config = ⊥
PieceFault M start new state done piece before now Read = ⊥
PieceFault M start new state done piece before now Write = now ≡ before + 1
PieceFault M start new state done piece before now Memory = (now ≡ before) × Interrupted M start new state done piece
PieceFault M start new state done piece before now TooMuch = (now ≡ before) × Overflows M start new (done ++ piece)

-- the counts of lines
pub record IsSummary (M : State) (lines : List (List ℕ)) (summary : Summary) : Type 0 where
  pub lines_read : summary.lines ≡ length lines
  pub lines_few : summary.lines ≤ MAX_LINES
  pub lines_refused : summary.refused ≡ refusals M lines
  pub lines_accepted : summary.accepted + summary.refused ≡ summary.lines
