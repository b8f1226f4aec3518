use Rattle.std.proofs.lemmas.Result.{err_from_is_err_and}
use Rattle.callers.proofs.Refusals.{refused_by}
use Rattle.callers.proofs.what_if.before_and_behind.Goals as goal

pub returns-in_err-apply-clause-refused : goal.returns-in_err-apply-clause-refused
returns-in_err-apply-clause-refused g c =
    let e = err_from_is_err_and c.from_residual-in_err-apply.result c.from_residual-in_err-apply.ensures.1 in
    rw (e.1, e.2) (refused_by _ c.in_err-apply.field-0.0 c.in_err-apply.ensures.refused)
