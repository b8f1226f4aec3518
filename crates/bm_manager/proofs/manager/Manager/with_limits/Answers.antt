use Rattle.std.proofs.Common.{sym, ◌∙◌, arith}
use Rattle.bm_manager.proofs.Checks.{nothing_refused, limits_are_allowed}
use Rattle.bm_manager.proofs.Lawfulness.{new_manager}
use Rattle.bm_manager.proofs.manager.Manager.with_limits.Goals as goal

pub new-requires : goal.new-requires
new-requires c = limits_are_allowed c.args.limits (nothing_refused _ _ (sym c.check-2.ensures ∙ c.in_ok-check-2.was))

pub invariant_of-result : goal.invariant_of-result
invariant_of-result c =
    let C = c.in_ok-new.field-0.cluster in
    let allowed = nothing_refused _ _ (sym c.check.ensures ∙ c.in_ok-check.was) in
    let limits_allowed = limits_are_allowed c.args.limits (nothing_refused _ _ (sym c.check-2.ensures ∙ c.in_ok-check-2.was)) in
    new_manager c.args.limits c.args.config C c.in_ok-new-2.field-0 allowed limits_allowed (omega arith, omega arith) c.in_ok-new.ensures.empty c.in_ok-new-2.ensures.empty
    (c.in_ok-new-2.ensures.up_to_date C) c.in_ok-new-2.ensures.rounds
