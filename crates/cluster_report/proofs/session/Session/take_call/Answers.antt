use Rattle.std.proofs.Common.{sym, ◌∙◌}
use Rattle.cluster_report.proofs.StepLemmas.{accepted_by, follows_by, on_ok}
use Rattle.cluster_report.proofs.session.Session.take_call.Goals as goal

pub take-requires : goal.take-requires
take-requires g c = accepted_by c.args.self.now.manager _ c.args.call.now _ c.requires.cluster c.answer-answer.ensures.answer (sym c.is_out_of_memory.ensures ∙ c.if-is_out_of_memory.false)

pub returns-clause-in_step : goal.returns-clause-in_step
returns-clause-in_step g c =
    on_ok c.refusal_text_of.result
    (follows_by c.args.self.now.manager _ c.args.self.now.book _ c.args.call.now _ c.show_invariant.ensures c.requires c.answer-answer.ensures.answer (sym c.is_out_of_memory.ensures ∙ c.if-is_out_of_memory.false) c.answer-answer.ensures.state
    c.in_ok-take.ensures.cluster c.in_ok-take.ensures.copies c.in_ok-take.ensures.pend c.in_ok-take.ensures.blocks)
