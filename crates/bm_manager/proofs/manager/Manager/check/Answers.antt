use Rattle.std.proofs.Common.{ap, sym, ◌∙◌, arith, Err}
use Rattle.std.proofs.lemmas.Result.{err_from_is_err_and}
use Rattle.bm_base.specs.Words.{refusal_of, checked}
use Rattle.bm_manager.specs.contracts.manager.Manager.{the_view}
use Rattle.bm_manager.proofs.Checks.{refused_by_cluster, refused_by_blocks, passed_by_both, calls_spent-last, calls_spent-below}
use Rattle.bm_manager.proofs.manager.Manager.check.Goals as goal

pub returns-in_err-check-clause-refusal : goal.returns-in_err-check-clause-refusal
returns-in_err-check-clause-refusal c =
    let p = err_from_is_err_and c.from_residual.result c.from_residual.ensures.1 in
    let M = the_view c.self.inside in
    p.1 ∙ ap Err p.2 ∙ sym (refused_by_cluster M c.args.event.now _ (sym c.check.ensures.refusal ∙ c.in_err-check.was)) ∙ ap (λ N. checked (refusal_of N c.args.event.now)) c.self.view_is

pub returns-in_err-check-2-clause-refusal : goal.returns-in_err-check-2-clause-refusal
returns-in_err-check-2-clause-refusal c =
    let p = err_from_is_err_and c.from_residual-in_err-check-2.result c.from_residual-in_err-check-2.ensures.1 in
    let M = the_view c.self.inside in
    p.1 ∙ ap Err p.2 ∙ sym (refused_by_blocks M c.args.event.now _ _ (sym c.check.ensures.refusal ∙ c.in_ok-check.was) (sym c.check-2.ensures ∙ c.in_err-check-2.was))
    ∙ ap (λ N. checked (refusal_of N c.args.event.now)) c.self.view_is

pub returns-then-self-clause-refusal : goal.returns-then-self-clause-refusal
returns-then-self-clause-refusal c =
    let M = the_view c.self.inside in
    sym (ap checked (passed_by_both M c.args.event.now _ _ (sym c.check.ensures.refusal ∙ c.in_ok-check.was) (sym c.check-2.ensures ∙ c.in_ok-check-2.was) ∙ calls_spent-last M c.if-self.true))
    ∙ ap (λ N. checked (refusal_of N c.args.event.now)) c.self.view_is

pub returns-clause-refusal : goal.returns-clause-refusal
returns-clause-refusal c =
    let M = the_view c.self.inside in
    sym (ap checked (passed_by_both M c.args.event.now _ _ (sym c.check.ensures.refusal ∙ c.in_ok-check.was) (sym c.check-2.ensures ∙ c.in_ok-check-2.was) ∙ calls_spent-below M (omega arith)))
    ∙ ap (λ N. checked (refusal_of N c.args.event.now)) c.self.view_is
