use Rattle.std.proofs.Common.{[], ◌∷◌, ◌++◌, take, refl, sym, append_assoc, append-nil}
use Rattle.std.proofs.lemmas.List.{take_rest}
use Rattle.std.proofs.Math.Seq.{drop-length}
use Rattle.std.proofs.lemmas.Result.{err_from_is_err_and}
use Rattle.bm_lines.specs.Lines.{line_end}
use Rattle.bm_session.proofs.ProgressLemmas.{progress_part, progress_interrupted, interrupted_line, piece_fault_of_line}
use Rattle.bm_session.proofs.session.Session.take_line.Goals as goal

pub returns-in_err-add-in-Some-clause-err : goal.returns-in_err-add-in-Some-clause-err
returns-in_err-add-in-Some-clause-err g c =
    let e = err_from_is_err_and c.from_residual.result c.from_residual.ensures.1 in
    rw (e.1, e.2) (λ M start bytes p. (refl, progress_interrupted M start _ _ bytes _ p))

pub returns-in_err-end_line-in-Some-clause-err : goal.returns-in_err-end_line-in-Some-clause-err
returns-in_err-end_line-in-Some-clause-err g c =
    let e = err_from_is_err_and c.from_residual-in_err-end_line-in-Some.result c.from_residual-in_err-end_line-in-Some.ensures.1 in
    let line = take c.in-Some.at c.args.piece.now in
    rw (e.1, e.2) (λ M start bytes p.
    piece_fault_of_line M start _ _ _ _ _ _ _ _ c.in_err-end_line-in-Some.ensures.err
    (rw c.in-Some.ensures.split (interrupted_line M start _ _ _ bytes line _ p c.in-Some.ensures.part
    (c.in_err-end_line-in-Some.ensures.worked (p.rest ++ line) (c.in_ok-add-in-Some.ensures.holds p.rest p.holds)))))

pub returns-in_err-add-in-None-clause-err : goal.returns-in_err-add-in-None-clause-err
returns-in_err-add-in-None-clause-err g c =
    let e = err_from_is_err_and c.from_residual-in_err-add-in-None.result c.from_residual-in_err-add-in-None.ensures.1 in
    rw (e.1, e.2) (λ M start bytes p. (refl, progress_interrupted M start _ _ bytes _ p))

pub returns-in_ok-end_line-in-Some-clause-ok : goal.returns-in_ok-end_line-in-Some-clause-ok
returns-in_ok-end_line-in-Some-clause-ok g c = λ M start bytes p.
    let line = take c.in-Some.at c.args.piece.now in
    let part = progress_part M start _ _ _ bytes line p c.in-Some.ensures.part c.requires.few c.in_ok-add-in-Some.ensures.holds refl refl refl in (
      line ++ line_end ∷ [],
      rw (take_rest, append_assoc) c.in-Some.ensures.split,
      rw (← append_assoc) (c.in_ok-end_line-in-Some.ensures.ok M start _ part),
    )

pub returns-in_ok-add-in-None-clause-ok : goal.returns-in_ok-add-in-None-clause-ok
returns-in_ok-add-in-None-clause-ok g c = λ M start bytes p. (
  c.args.piece.now,
  rw (take_rest, drop-length) (sym (append-nil _)),
  progress_part M start _ _ _ bytes c.args.piece.now p c.in-None.ensures.none c.requires.few c.in_ok-add-in-None.ensures.holds refl refl refl,
)
