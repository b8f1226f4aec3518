-- The output for an input: its lines are read as calls, the calls are made one after another from
-- the first state, and each answer is a line.
use Rattle.std.specs.Prelude.{ℕ, ◌+◌, List, [], ◌∷◌, ◌++◌, if◌then◌else◌}
use Rattle.bm_base.specs.declared.config.Config.{Config}
use Rattle.bm_base.specs.Machine.State.{State, first_state}
use Rattle.bm_lines.specs.Lines.{lines_of, ended}
use Rattle.bm_answers.specs.OneLine.{line_text, line_next, line_refused}

-- the answers to lines, each with its line end
unfoldable pub texts : State → List (List ℕ) → List ℕ
texts M [] = []
texts M (l ∷ ls) = ended (line_text M l) ++ texts (line_next M l) ls

-- the state after lines
unfoldable pub after : State → List (List ℕ) → State
after M [] = M
after M (l ∷ ls) = after (line_next M l) ls

-- the number of lines that are refused
unfoldable pub refusals : State → List (List ℕ) → ℕ
refusals M [] = 0
refusals M (l ∷ ls) = (if line_refused M l then 1 else 0) + refusals (line_next M l) ls

abbrev pub text : Config → List ℕ → List ℕ
text config input = texts (first_state config) (lines_of input)
