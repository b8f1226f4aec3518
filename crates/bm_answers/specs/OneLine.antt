-- The answer to one line: the call that it asks for is made, and the answer is a line.
use Rattle.std.specs.Prelude.{ℕ, Bool, true, false, List, length, if◌then◌else◌, nat_lt, Option, Some, None, codes}
use Rattle.bm_base.specs.declared.call.Call.{Call}
use Rattle.bm_base.specs.declared.call.Answer.TheVariants as answer
use Rattle.bm_base.specs.Words.{State, step, is_refused, may_run_out_of_memory, refusal_number}
use Rattle.bm_lines.specs.declared.limits.TheConstants.{MAX_LINE}
use Rattle.bm_lines.specs.Print.{answer_text}
use Rattle.bm_lines.specs.Parser.CallOf.{call_of}
use Rattle.bm_answers.specs.declared.line_answer.Request.{Request}
use Rattle.bm_answers.specs.declared.line_answer.Request.TheVariants.{Long, Bad, Asks}
use Rattle.bm_answers.specs.declared.line_answer.LineAnswer.{LineAnswer}
use Rattle.bm_answers.specs.declared.line_answer.LineAnswer.TheVariants as line

abbrev pub asked_by : Option Call → Request
asked_by None = Bad
asked_by (Some k) = Asks k

-- the call that a line asks for, if it is not too long
unfoldable pub asked : List ℕ → Request
asked line = if nat_lt MAX_LINE (length line) then Long else asked_by (call_of line)

-- the answer, and the next state

abbrev pub answer_to : State → Request → LineAnswer
answer_to M Long = line.Long
answer_to M Bad = line.Bad
answer_to M (Asks k) = line.Answered k (step M k).0

abbrev pub asked_next : State → Request → State
asked_next M (Asks k) = (step M k).1
asked_next M _ = M

-- whether it may run out of memory: it is a call that takes some, and nothing else refuses it
abbrev pub asked_may_lack : State → Request → Bool
asked_may_lack M (Asks k) = may_run_out_of_memory M k
asked_may_lack M _ = false

-- the text of an answer, whether it begins with `refused`, and the number after that word

abbrev pub text_of : LineAnswer → List ℕ
text_of line.Long = codes "refused 21 LongLine"
text_of line.Bad = codes "refused 20 BadLine"
text_of (line.Answered k a) = answer_text k a

abbrev pub is_refusal : LineAnswer → Bool
is_refusal (line.Answered k a) = is_refused a
is_refusal _ = true

abbrev pub number_of : LineAnswer → ℕ
number_of line.Long = 21
number_of line.Bad = 20
number_of (line.Answered k (answer.Refused r)) = refusal_number r
number_of (line.Answered k _) = 0

unfoldable pub line_text : State → List ℕ → List ℕ
line_text M line = text_of (answer_to M (asked line))

unfoldable pub line_next : State → List ℕ → State
line_next M line = asked_next M (asked line)

unfoldable pub line_refused : State → List ℕ → Bool
line_refused M line = is_refusal (answer_to M (asked line))

-- 0, or the number of the refusal
unfoldable pub line_number : State → List ℕ → ℕ
line_number M line = number_of (answer_to M (asked line))
