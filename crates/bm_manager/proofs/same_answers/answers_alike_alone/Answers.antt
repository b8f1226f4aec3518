use Rattle.bm_base.specs.Words.{first_state_within}
use Rattle.bm_manager.proofs.SameAnswers.{both_alike}
use Rattle.bm_manager.proofs.same_answers.answers_alike_alone.Goals as goal

-- both managers begin in the same state
pub returns-clause-alike : goal.returns-clause-alike
returns-clause-alike g c =
    both_alike (first_state_within c.args.limits c.args.config) c.args.calls.now c.in_ok-answers.answers c.in_ok-other_answers.other_answers c.in_ok-answers.ensures.answers c.in_ok-other_answers.ensures.answers
