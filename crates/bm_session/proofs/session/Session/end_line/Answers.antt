use Rattle.std.proofs.Common.{◌+◌, refl, ap, inr}
use Rattle.std.proofs.lemmas.Result.{err_from_is_err_and}
use Rattle.bm_session.proofs.ProgressLemmas.{at_success, one_if, progress_end, may_be_worked}
use Rattle.bm_session.proofs.session.Session.end_line.Goals as goal

pub returns-clause-ok : goal.returns-clause-ok
returns-clause-ok g c = λ M start bytes p.
    let wrote = at_success c.write_all.result c.is_err.result c.is_err.ensures.value c.if-is_err.false c.write_all.ensures.bytes in
    progress_end M start _ _ c.args.self.now _ bytes c.in_ok-asked.asked p c.in_ok-asked.ensures (rw (← c.in_ok-reply.ensures.text, ← c.as_bytes.ensures.value) wrote) c.in_ok-reply.ensures.next refl (rw (← c.in_ok-reply.ensures.refused, c.from.ensures) (ap (λ n. c.args.self.now.refused + n) (one_if _))) c.clear.ensures.holds

pub returns-in_err-reply-clause-worked : goal.returns-in_err-reply-clause-worked
returns-in_err-reply-clause-worked g c =
    let e = err_from_is_err_and c.from_residual-in_err-reply.result c.from_residual-in_err-reply.ensures.1 in
    rw e.1 (λ rest held. may_be_worked _ c.in_ok-asked.asked rest _ (c.in_ok-asked.ensures rest held) c.in_err-reply.ensures.worked)

pub returns-then-is_err-clause-worked : goal.returns-then-is_err-clause-worked
returns-then-is_err-clause-worked g c = λ rest held. may_be_worked _ c.in_ok-asked.asked rest _ (c.in_ok-asked.ensures rest held) (inr c.in_ok-reply.ensures.next)
