use Rattle.std.proofs.Common.{◌++◌, [], ◌∷◌}
use Rattle.std.proofs.lemmas.Result.{err_from_is_err_and}
use Rattle.bm_lines.specs.Lines.{line_end}
use Rattle.bm_session.specs.Progress.{Progress}
use Rattle.bm_session.proofs.ProgressLemmas.{interrupted_rest, piece_fault_of_line, lines_of-ended, lines_of-empty, finished}
use Rattle.bm_session.proofs.session.Session.finish.Goals as goal
use Rattle.bm_session.proofs.session.Session.finish.Goals.{then-not-is_empty+in_ok-end_line, else-not-is_empty}

pub returns-in_err-end_line-clause-err : goal.returns-in_err-end_line-clause-err
returns-in_err-end_line-clause-err g c =
    let e = err_from_is_err_and c.from_residual.result c.from_residual.ensures.1 in
    rw (e.1, e.2) (λ M start bytes p. piece_fault_of_line M start _ _ _ _ _ _ _ _ c.in_err-end_line.ensures.err
    (interrupted_rest M start _ _ _ bytes p (λ none. let rest_is = (c.is_empty.ensures.holds p.rest p.holds).1 none in let but = c.if-not-is_empty.true in cc) (c.in_err-end_line.ensures.worked p.rest p.holds)))

pub returns-clause-ok : goal.returns-clause-ok
returns-clause-ok g c = λ M start bytes p. elim c.if-not-is_empty.branch [
  | then-not-is_empty+in_ok-end_line w ↦
      let q : Progress M start (g.W.Sink.contents c.if-not-is_empty.writer) c.if-not-is_empty.self (bytes ++ line_end ∷ []) = rw (w.writer-is, w.self-is) (w.in_ok-end_line.ensures.ok M start bytes p) in
      finished M start _ _ _ _ q _ (lines_of-ended M start _ _ _ _ bytes p (λ none. let rest_is = (c.is_empty.ensures.holds p.rest p.holds).1 none in let but = w.if-not-is_empty.true in cc) q) c.flush.ensures.bytes
  | else-not-is_empty w ↦
      let q : Progress M start (g.W.Sink.contents c.if-not-is_empty.writer) c.if-not-is_empty.self bytes = rw (w.writer-is, w.self-is) p in
      finished M start _ _ _ _ q _ (lines_of-empty M start _ _ bytes q ((c.is_empty.ensures.holds q.rest (rw w.self-is at q.holds)).0 w.if-not-is_empty.false)) c.flush.ensures.bytes
]
