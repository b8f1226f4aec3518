use Rattle.std.proofs.Common.{◌≡◌, ◌≤◌, List, ◌++◌, drop, length, vec_len, vec_capacity}
use Rattle.bm_base.specs.declared.call.Answer.{Answer}
use Rattle.bm_base.specs.Words.{MayAnswerAll, state_after_answers}
use Rattle.bm_manager.proofs.manager.Manager.answer_all_with.Given as goal

-- the answers so far, with any that the remaining calls may give, are answers that all the calls
-- may give, with the same last state
abbrev pub invariant-loop-call : goal.invariant-loop-call
invariant-loop-call g l =
    record {
      may : (rest : List Answer) → MayAnswerAll l.self (drop l.call-index l.calls) rest → MayAnswerAll l.fn.self l.calls (l.answers.items ++ rest);
      state : (rest : List Answer) → MayAnswerAll l.self (drop l.call-index l.calls) rest → state_after_answers l.self (drop l.call-index l.calls) rest ≡ state_after_answers l.fn.self l.calls (l.answers.items ++ rest);
      capacity : length l.calls ≤ vec_capacity l.answers;
      count : vec_len l.answers ≡ l.call-index;
    }
