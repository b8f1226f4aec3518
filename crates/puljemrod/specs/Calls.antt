-- The result of a call on a handle: its code, and the handle's state.
use Rattle.std.specs.Prelude.{◌≡◌, ◌<◌, ◌⊎◌, ℕ, true, IsTrue, List, [], length, Option, Some, None}
use Rattle.bm_base.specs.declared.config.Config.{Config}
use Rattle.bm_base.specs.declared.limits.Limits.{Limits}
use Rattle.bm_base.specs.declared.call.Call.{Call}
use Rattle.bm_base.specs.declared.call.Call.TheVariants.{Apply}
use Rattle.bm_base.specs.declared.event.Event.{Event}
use Rattle.bm_base.specs.declared.event.Event.TheVariants.{Heartbeat}
use Rattle.bm_base.specs.declared.event.Remaining.{Remaining}
use Rattle.bm_base.specs.declared.refusal.Refusal.{Refusal}
use Rattle.bm_base.specs.Words.{State, first_state_within, Refuses, may_run_out_of_memory, refusal_number}
use Rattle.bm_answers.specs.declared.line_answer.Request.{Request}
use Rattle.bm_answers.specs.declared.line_answer.Request.TheVariants.{Asks, Long}
use Rattle.bm_answers.specs.declared.line_answer.LineAnswer.{LineAnswer}
use Rattle.bm_answers.specs.OneLine.{asked, answer_to, asked_next, number_of, text_of, line_text, line_next, line_number}
use Rattle.puljemrod.specs.declared.codes.TheConstants.{MEMORY, CLOSED, NO_TEXT}
use Rattle.puljemrod.specs.declared.options.Options.{Options}
use Rattle.puljemrod.specs.declared.handle_state.HandleState.{HandleState}
use Rattle.puljemrod.specs.GivenOptions.{config_of, cluster_limits_of, options_refusal}

-- the text that can be copied out
abbrev pub text_in : Option HandleState → List ℕ
text_in None = []
text_in (Some k) = k.text.items

-- the text of the last answer, whether it is made or not
abbrev pub text_with : Option LineAnswer → List ℕ → List ℕ
text_with None text = text
text_with (Some a) text = text_of a

abbrev pub last_text : HandleState → List ℕ
last_text k = text_with k.answer k.text.items

-- a new manager within these limits, and an empty answer
pub record IsFirst (limits : Limits) (config : Config) (k : HandleState) : Type 0 where
  pub state : k.manager ≡ first_state_within limits config
  pub number : k.number ≡ 0
  pub answer : k.answer ≡ None
  pub text : k.text.items ≡ []

-- Opening: the code is 0, or it is the number of a refusal, by which the handle stays closed.
abbrev pub IsOpened : Options → ℕ → Option HandleState → Type 0
IsOpened o code now =
    ((code ≡ 0) × (options_refusal o ≡ None) × (k : HandleState) × (now ≡ Some k) × IsFirst (cluster_limits_of o) (config_of o) k)
    ⊎ ((now ≡ None) × (r : Refusal) × (code ≡ refusal_number r) × Refuses (options_refusal o) true r)

-- The call is done: its answer is stored, and its text is not made.
pub record IsAsked (M : State) (asks : Request) (k : HandleState) : Type 0 where
  pub state : k.manager ≡ asked_next M asks
  pub number : k.number ≡ number_of (answer_to M asks)
  pub answer : k.answer ≡ Some (answer_to M asks)
  pub no_text : k.text.items ≡ []
  pub no_memory : k.number ≡ MEMORY → ⊥

-- a line is answered by the definition, and the state is the next one
pub record IsAnswered (M : State) (line : List ℕ) (k : HandleState) : Type 0 where
  pub state : k.manager ≡ line_next M line
  pub number : k.number ≡ line_number M line
  pub text : last_text k ≡ line_text M line
  pub no_memory : k.number ≡ MEMORY → ⊥

-- Either the text can be copied out, and the code is the number of the answer. Or memory was
-- refused for the text, and the text that can be copied out is as before.
abbrev pub IsTextStored : List ℕ → HandleState → ℕ → ℕ → Type 0
IsTextStored before k code len = ((code ≡ k.number) × (k.answer ≡ None) × (len ≡ length k.text.items)) ⊎ ((code ≡ NO_TEXT) × (len ≡ 0) × (k.text.items ≡ before))

-- A call on a line: memory was refused for a line that is not too long, and nothing changed; or the
-- line is answered.
abbrev pub IsLine : HandleState → List ℕ → HandleState → ℕ → ℕ → Type 0
IsLine k line now code len = ((code ≡ MEMORY) × (now ≡ k) × (len ≡ 0) × (asked line ≡ Long → ⊥)) ⊎ (IsAnswered k.manager line now × IsTextStored [] now code len)

-- the call is made by the definition
abbrev pub IsMade : HandleState → Call → HandleState → ℕ → Type 0
IsMade k c now code = IsAsked k.manager (Asks c) now × (code ≡ now.number)

-- A call by its own function. Either memory was refused and nothing changed, which is possible only
-- if the call takes memory and nothing else refuses it; or the call is made.
abbrev pub IsCall : HandleState → Call → HandleState → ℕ → Type 0
IsCall k c now code = ((code ≡ MEMORY) × (now ≡ k) × IsTrue (may_run_out_of_memory k.manager c)) ⊎ IsMade k c now code

-- As `IsCall`, for an event with a list, which is copied first: memory may be refused for the copy,
-- whatever the event.
abbrev pub IsListed : HandleState → Call → HandleState → ℕ → Type 0
IsListed k c now code = ((code ≡ MEMORY) × (now ≡ k)) ⊎ IsMade k c now code

-- As `IsCall`, for a heartbeat, whose list is copied into memory that the handle keeps: memory may
-- be refused only if that is too small for the list.
abbrev pub IsBeat : HandleState → ℕ → List Remaining → HandleState → ℕ → Type 0
IsBeat k node rs now code = ((code ≡ MEMORY) × (now ≡ k) × (k.spare < length rs)) ⊎ IsMade k (Apply (Heartbeat node rs)) now code

-- The text of the last answer is requested: state and answer stay as they are. A text that is made
-- already is not refused, and if memory is refused nothing changes.
pub record IsText (k now : HandleState) (code len : ℕ) : Type 0 where
  pub state : now.manager ≡ k.manager
  pub number : now.number ≡ k.number
  pub text : last_text now ≡ last_text k
  pub stored : ((code ≡ k.number) × (now.answer ≡ None) × (len ≡ length now.text.items)) ⊎ ((code ≡ NO_TEXT) × (len ≡ 0) × (now ≡ k) × (k.answer ≡ None → ⊥))

-- the effect of a call on a closed handle, which keeps the length of an answer, and on an open one

abbrev pub AfterLine : Option HandleState → List ℕ → Option HandleState → ℕ → ℕ → ℕ → Type 0
AfterLine None line now code before len = (code ≡ CLOSED) × (now ≡ None) × (len ≡ before)
AfterLine (Some k) line now code before len = (n : HandleState) × (now ≡ Some n) × IsLine k line n code len

abbrev pub AfterText : Option HandleState → Option HandleState → ℕ → ℕ → ℕ → Type 0
AfterText None now code before len = (code ≡ CLOSED) × (now ≡ None) × (len ≡ before)
AfterText (Some k) now code before len = (n : HandleState) × (now ≡ Some n) × IsText k n code len

abbrev pub AfterCall : Option HandleState → Call → Option HandleState → ℕ → Type 0
AfterCall None c now code = (code ≡ CLOSED) × (now ≡ None)
AfterCall (Some k) c now code = (n : HandleState) × (now ≡ Some n) × IsCall k c n code

abbrev pub AfterEvent : Option HandleState → Event → Option HandleState → ℕ → Type 0
AfterEvent old e now code = AfterCall old (Apply e) now code

abbrev pub AfterListed : Option HandleState → Event → Option HandleState → ℕ → Type 0
AfterListed None e now code = (code ≡ CLOSED) × (now ≡ None)
AfterListed (Some k) e now code = (n : HandleState) × (now ≡ Some n) × IsListed k (Apply e) n code

abbrev pub AfterBeat : Option HandleState → ℕ → List Remaining → Option HandleState → ℕ → Type 0
AfterBeat None node rs now code = (code ≡ CLOSED) × (now ≡ None)
AfterBeat (Some k) node rs now code = (n : HandleState) × (now ≡ Some n) × IsBeat k node rs n code
