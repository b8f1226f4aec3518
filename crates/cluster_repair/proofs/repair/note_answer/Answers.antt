use Rattle.std.proofs.Common.{◌∙◌, List, not, sym, ap}
use Rattle.std.specs.Prelude.{is_some}
use Rattle.cluster_repair.specs.declared.repair.Retirement.{Retirement}
use Rattle.cluster_repair.specs.Retirements.{retirement_of}
use Rattle.cluster_repair.proofs.RetirementLemmas.{answered_yes}
use Rattle.cluster_repair.proofs.repair.note_answer.Goals as goal

pub returns-in_ok-push : goal.returns-in_ok-push
returns-in_ok-push c n =
    answered_yes c.args.manager.now c.args.node n c.args.rounds c.args.seconds c.args.retired.now.items c.push.new.self.items
    (sym c.in_ok-retired.ensures.retired ∙ c.if-not-branch.false)
    (ap is_some (sym (c.retirement_of.ensures ∙ ap (λ (ts : List Retirement). retirement_of ts c.args.node) c.as_slice.ensures.value)) ∙ c.is_none.ensures ∙ ap not c.if-is_none.true)
    c.in_ok-push.ensures.items
