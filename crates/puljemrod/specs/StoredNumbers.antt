-- The answer of a question: a number, or the length of a stored list.
use Rattle.std.specs.Prelude.{ℕ, true, length, if◌then◌else◌, ◌==◌, ◌≡◌, Option, Some, None}
use Rattle.bm_base.specs.declared.replica.Level.{Level}
use Rattle.bm_base.specs.declared.call.Call.{Call}
use Rattle.bm_base.specs.declared.call.Answer.{Answer}
use Rattle.bm_base.specs.declared.call.Answer.TheVariants as answer
use Rattle.bm_base.specs.Machine.Levels.{level_number}
use Rattle.bm_answers.specs.declared.line_answer.LineAnswer.{LineAnswer}
use Rattle.bm_answers.specs.declared.line_answer.LineAnswer.TheVariants.{Answered}
use Rattle.puljemrod.specs.declared.codes.TheConstants.{NO_LEVEL}
use Rattle.puljemrod.specs.declared.handle_state.HandleState.{HandleState}
use Rattle.puljemrod.specs.Calls.{AfterCall}

abbrev pub level_or_none : Option Level → ℕ
level_or_none None = NO_LEVEL
level_or_none (Some l) = level_number l

-- 0 if there is neither a number nor a list
abbrev pub number_in : Answer → ℕ
number_in (answer.LevelIs l) = level_or_none l
number_in (answer.IsRetired true) = 1
number_in (answer.Number n) = n
number_in (answer.Replicas rs) = length rs
number_in (answer.ReplicaIds rs) = length rs
number_in (answer.Blocks bs) = length bs
number_in (answer.Storages ss) = length ss
number_in _ = 0

abbrev pub number_of_answer : Option LineAnswer → ℕ
number_of_answer (Some (Answered c a)) = number_in a
number_of_answer _ = 0

abbrev pub number_of_state : Option HandleState → ℕ
number_of_state None = 0
number_of_state (Some k) = number_of_answer k.answer

-- A question: if its call is accepted, the result is the number of the stored answer. Otherwise the
-- result is unchanged.
pub record AfterQuestion (old : Option HandleState) (c : Call) (now : Option HandleState) (code before after : ℕ) : Type 0 where
  pub called : AfterCall old c now code
  pub number : after ≡ (if code == 0 then number_of_state now else before)
