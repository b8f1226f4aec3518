use Rattle.std.proofs.Common.{◌<◌, ◌++◌, length, sym, ap, ◌∙◌, append_assoc}
use Rattle.std.proofs.lemmas.Result.{err_from_is_err_and}
use Rattle.bm_session.proofs.ProgressLemmas.{positive, progress_overflows, fault_earlier}
use Rattle.bm_session.proofs.session.Session.take_piece.Goals as goal

pub returns-then-self-eq-MAX_LINES-clause-err : goal.returns-then-self-eq-MAX_LINES-clause-err
returns-then-self-eq-MAX_LINES-clause-err g c = λ M start bytes p.
    let q = c.loop-left.invariant.progress M start bytes p in
    let some : 0 < length c.loop-left.left.now = positive _ (sym c.is_empty.ensures ∙ c.loop-left-test.true) in
    (c.loop-left.invariant.faults, rw (q.1, ← append_assoc) (progress_overflows M start _ _ (bytes ++ q.0) _ q.2 c.if-self-eq-MAX_LINES.true some))

pub returns-in_err-left-clause-err : goal.returns-in_err-left-clause-err
returns-in_err-left-clause-err g c =
    let e = err_from_is_err_and c.from_residual.result c.from_residual.ensures.1 in
    rw (e.1, e.2) (λ M start bytes p.
    let q = c.loop-left.invariant.progress M start bytes p in
    rw (q.1, ← c.loop-left.invariant.faults) (fault_earlier M start _ _ bytes q.0 _ _ _ _ (c.in_err-left.ensures.err M start (bytes ++ q.0) q.2)))

pub loop-left-preserved : goal.loop-left-preserved
loop-left-preserved g c = record {
  faults = c.in_ok-left.ensures.faults ∙ c.loop-left.invariant.faults;
  progress = λ M start bytes p.
      let q = c.loop-left.invariant.progress M start bytes p in
      let r = c.in_ok-left.ensures.ok M start (bytes ++ q.0) q.2 in
      (q.0 ++ r.0, rw append_assoc (q.1 ∙ ap (λ x. q.0 ++ x) r.1), rw (← append_assoc) r.2);
}
