use Rattle.std.proofs.Common.{◌≡◌, ◌-◌, List, [], ◌++◌, ℕ, take, drop, refl, ◌∙◌, append-nil, arith, length-append}
use Rattle.std.proofs.lemmas.List.{length-take-le, take_all}
use Rattle.std.proofs.lemmas.Result.{err_from_is_err_and, IfOk-weaker, IfErr-weaker}
use Rattle.std.proofs.KnownBytes.{Consumes-nil, Consumes-trans, Consumes-kept}
use Rattle.bm_base.specs.Machine.State.{State, first_state}
use Rattle.bm_session.specs.declared.limits.TheConstants.{MAX_BYTES}
use Rattle.bm_session.proofs.LineLemmas.{whole_lines-split}
use Rattle.bm_session.proofs.ProgressLemmas.{few_lines}
use Rattle.bm_session.proofs.RunLemmas.{take_within, take_split, faulted_at_start, counts_at_start, config_at_start, config_of_piece, config_of_finished, faulted_of_piece, faulted_of_whole, counts_of_piece, too_many_bytes, finished_leaves, finished_causes, text_of_known, flushed_at_start, flushed_of_piece}
use Rattle.bm_session.proofs.whole_run.run.Goals as goal

pub returns-in_err-session-clause-leaves : goal.returns-in_err-session-clause-leaves
returns-in_err-session-clause-leaves g c =
    let e = err_from_is_err_and c.from_residual.result c.from_residual.ensures.1 in
    ([], Consumes-nil _, rw (e.1, e.2) (faulted_at_start c.args.config.now _ _ _ c.in_err-session.ensures.err))

pub returns-in_err-session-clause-cause : goal.returns-in_err-session-clause-cause
returns-in_err-session-clause-cause g c =
    let e = err_from_is_err_and c.from_residual.result c.from_residual.ensures.1 in
    rw (e.1, e.2) (counts_at_start c.args.config.now _ _ _ c.in_err-session.ensures.err)

pub returns-in_err-session-clause-config : goal.returns-in_err-session-clause-config
returns-in_err-session-clause-config g c =
    let e = err_from_is_err_and c.from_residual.result c.from_residual.ensures.1 in
    rw (e.1, e.2) (config_at_start c.args.config.now _ c.in_err-session.ensures.err)

pub returns-then-n-eq0-clause-config : goal.returns-then-n-eq0-clause-config
returns-then-n-eq0-clause-config g c =
    let q = c.loop-n.invariant.progress in
    let M : State = first_state c.args.config.now in
    config_of_finished c.args.config.now _ _ _ q.0 [] _ _ c.finish.result c.in_ok-session.ensures.allowed (IfErr-weaker c.finish.result _ _ (λ f h. h M _ q.0 q.3) c.finish.ensures.err)

pub returns-in_err-take_piece-clause-config : goal.returns-in_err-take_piece-clause-config
returns-in_err-take_piece-clause-config g c =
    let e = err_from_is_err_and c.from_residual-in_err-take_piece.result c.from_residual-in_err-take_piece.ensures.1 in
    let q = c.loop-n.invariant.progress in
    rw (e.1, e.2) (config_of_piece c.args.config.now _ _ _ _ _ _ _ _ c.in_ok-session.ensures.allowed (c.in_err-take_piece.ensures.err (first_state c.args.config.now) _ q.0 q.3))

pub returns-in_err-take_piece-2-clause-config : goal.returns-in_err-take_piece-2-clause-config
returns-in_err-take_piece-2-clause-config g c =
    let e = err_from_is_err_and c.from_residual-in_err-take_piece-2.result c.from_residual-in_err-take_piece-2.ensures.1 in
    let q = c.loop-n.invariant.progress in
    rw (e.1, e.2) (config_of_piece c.args.config.now _ _ _ _ _ _ _ _ c.in_ok-session.ensures.allowed (c.in_err-take_piece-2.ensures.err (first_state c.args.config.now) _ q.0 q.3))

pub loop-n-init : goal.loop-n-init
loop-n-init g c = record {
  few = omega arith;
  buffer_len = refl;
  reads = refl;
  writes = refl;
  flushed = λ h. h;
  progress = ([], Consumes-nil _, refl, c.in_ok-session.ensures.ok _);
}

pub returns-in_default-clause-leaves : goal.returns-in_default-clause-leaves
returns-in_default-clause-leaves g c =
    let q = c.loop-n.invariant.progress in
    (q.0, Consumes-kept _ _ _ _ q.1 c.in_default.ensures.bytes, (omega (arith, q.2, c.loop-n.invariant.few), few_lines q.3, rw (whole_lines-split q.3.splits) q.3.wrote))

pub returns-then-n-eq0-clause-leaves : goal.returns-then-n-eq0-clause-leaves
returns-then-n-eq0-clause-leaves g c =
    let q = c.loop-n.invariant.progress in
    let none = rw (c.if-n-eq0.true) at c.in-Ok.ensures.bytes.0 in
    let M : State = first_state c.args.config.now in (
      q.0,
      rw append-nil at (Consumes-trans _ _ _ _ _ q.1 none),
      finished_leaves c.args.config.now q.0 _ _ _ _ _ _ _ c.finish.result (c.in-Ok.ensures.bytes.1 c.if-n-eq0.true (omega (arith, c.loop-n.invariant.buffer_len))) (omega (arith, q.2, c.loop-n.invariant.few))
          (IfOk-weaker c.finish.result _ _ (λ summary h. h M _ q.0 q.3) c.finish.ensures.ok)
          (IfErr-weaker c.finish.result _ _ (λ f h. h M _ q.0 q.3) c.finish.ensures.err),
    )

pub returns-then-n-eq0-clause-cause : goal.returns-then-n-eq0-clause-cause
returns-then-n-eq0-clause-cause g c =
    let q = c.loop-n.invariant.progress in
    let M : State = first_state c.args.config.now in
    rw (← c.loop-n.invariant.writes) (finished_causes M _ _ _ q.0 [] _ _ _ _ c.finish.result (c.in-Ok.ensures.cause ∙ c.loop-n.invariant.reads) c.finish.ensures.faults
    (IfErr-weaker c.finish.result _ _ (λ f h. h M _ q.0 q.3) c.finish.ensures.err))

pub returns-in_err-take_piece-clause-leaves : goal.returns-in_err-take_piece-clause-leaves
returns-in_err-take_piece-clause-leaves g c =
    let e = err_from_is_err_and c.from_residual-in_err-take_piece.result c.from_residual-in_err-take_piece.ensures.1 in
    let q = c.loop-n.invariant.progress in
    let bytes_left : ℕ = MAX_BYTES - c.loop-n.count in
    let read : List ℕ = take c.in-Ok.n c.read.new.buf in
    let split : read ≡ take bytes_left c.read.new.buf ++ drop bytes_left read = take_split c.read.new.buf bytes_left c.in-Ok.n (omega arith) in (
      q.0 ++ read,
      Consumes-trans _ _ _ _ _ q.1 c.in-Ok.ensures.bytes.0,
      rw (e.1, e.2, split) (faulted_of_piece c.args.config.now q.0 (take bytes_left c.read.new.buf) (drop bytes_left read) _ _ _ _ _ _ _
          (rw (← split) (take_within q.0 c.read.new.buf MAX_BYTES bytes_left c.in-Ok.n (omega (arith, q.2, c.loop-n.invariant.few)) (omega arith)))
          (rw (← split) (omega (arith, length-take-le c.in-Ok.n c.read.new.buf c.in-Ok.ensures.bound.0, c.in-Ok.ensures.last)))
          (rw (← split) (omega (arith, length-take-le c.in-Ok.n c.read.new.buf c.in-Ok.ensures.bound.0, c.in-Ok.ensures.bound.0, c.loop-n.invariant.buffer_len)))
          (c.in_err-take_piece.ensures.err (first_state c.args.config.now) _ q.0 q.3)),
    )

pub returns-in_err-take_piece-clause-cause : goal.returns-in_err-take_piece-clause-cause
returns-in_err-take_piece-clause-cause g c =
    let e = err_from_is_err_and c.from_residual-in_err-take_piece.result c.from_residual-in_err-take_piece.ensures.1 in
    let q = c.loop-n.invariant.progress in
    rw (e.1, e.2, ← c.loop-n.invariant.writes) (counts_of_piece _ _ _ _ _ _ _ _ _ _ _ (c.in-Ok.ensures.cause ∙ c.loop-n.invariant.reads) (c.in_err-take_piece.ensures.err (first_state c.args.config.now) _ q.0 q.3))

pub returns-then-n-bytes_left-clause-leaves : goal.returns-then-n-bytes_left-clause-leaves
returns-then-n-bytes_left-clause-leaves g c =
    let q = c.loop-n.invariant.progress in
    let bytes_left : ℕ = MAX_BYTES - c.loop-n.count in
    let read : List ℕ = take c.in-Ok.n c.read.new.buf in (
      q.0 ++ read,
      Consumes-trans _ _ _ _ _ q.1 c.in-Ok.ensures.bytes.0,
      too_many_bytes c.args.config.now (q.0 ++ read) (q.0 ++ take bytes_left c.read.new.buf) 0 _ _ _
          (take_within q.0 c.read.new.buf MAX_BYTES bytes_left c.in-Ok.n (omega (arith, q.2, c.loop-n.invariant.few)) (omega arith))
          (omega (arith, length-append q.0 read, length-take-le c.in-Ok.n c.read.new.buf c.in-Ok.ensures.bound.0, q.2, c.loop-n.invariant.few))
          (c.in_ok-take_piece.ensures.ok (first_state c.args.config.now) _ q.0 q.3),
    )

pub returns-in_err-take_piece-2-clause-leaves : goal.returns-in_err-take_piece-2-clause-leaves
returns-in_err-take_piece-2-clause-leaves g c =
    let e = err_from_is_err_and c.from_residual-in_err-take_piece-2.result c.from_residual-in_err-take_piece-2.ensures.1 in
    let q = c.loop-n.invariant.progress in
    let read : List ℕ = take c.in-Ok.n c.read.new.buf in (
      q.0 ++ read,
      Consumes-trans _ _ _ _ _ q.1 c.in-Ok.ensures.bytes.0,
      rw (e.1, e.2) (faulted_of_whole c.args.config.now q.0 read _ _ _ _ _ _ _
          (take_all MAX_BYTES (q.0 ++ read) (omega (arith, length-append q.0 read, length-take-le c.in-Ok.n c.read.new.buf c.in-Ok.ensures.bound.0, q.2, c.loop-n.invariant.few)))
          (omega (arith, length-take-le c.in-Ok.n c.read.new.buf c.in-Ok.ensures.bound.0, c.in-Ok.ensures.last))
          (omega (arith, length-take-le c.in-Ok.n c.read.new.buf c.in-Ok.ensures.bound.0, c.in-Ok.ensures.bound.0, c.loop-n.invariant.buffer_len))
          (c.in_err-take_piece-2.ensures.err (first_state c.args.config.now) _ q.0 q.3)),
    )

pub returns-in_err-take_piece-2-clause-cause : goal.returns-in_err-take_piece-2-clause-cause
returns-in_err-take_piece-2-clause-cause g c =
    let e = err_from_is_err_and c.from_residual-in_err-take_piece-2.result c.from_residual-in_err-take_piece-2.ensures.1 in
    let q = c.loop-n.invariant.progress in
    rw (e.1, e.2, ← c.loop-n.invariant.writes) (counts_of_piece _ _ _ _ _ _ _ _ _ _ _ (c.in-Ok.ensures.cause ∙ c.loop-n.invariant.reads) (c.in_err-take_piece-2.ensures.err (first_state c.args.config.now) _ q.0 q.3))

pub loop-n-preserved : goal.loop-n-preserved
loop-n-preserved g c =
    let q = c.loop-n.invariant.progress in
    let read : List ℕ = take c.in-Ok.n c.read.new.buf in
    record {
      few = omega (arith, c.loop-n.invariant.few);
      buffer_len = c.read.auto.buf ∙ c.loop-n.invariant.buffer_len;
      reads = c.in-Ok.ensures.cause ∙ c.loop-n.invariant.reads;
      writes = c.in_ok-take_piece-2.ensures.faults ∙ c.loop-n.invariant.writes;
      flushed = λ _. c.in_ok-take_piece-2.ensures.flushed;
      progress = (
        q.0 ++ read,
        Consumes-trans _ _ _ _ _ q.1 c.in-Ok.ensures.bytes.0,
        omega (arith, length-append q.0 read, length-take-le c.in-Ok.n c.read.new.buf c.in-Ok.ensures.bound.0, q.2),
        c.in_ok-take_piece-2.ensures.ok (first_state c.args.config.now) _ q.0 q.3,
      );
    }

pub returns-then-n-eq0-clause-text : goal.returns-then-n-eq0-clause-text
returns-then-n-eq0-clause-text g c =
    let q = c.loop-n.invariant.progress in
    let none = rw c.if-n-eq0.true at c.in-Ok.ensures.bytes.0 in
    let M : State = first_state c.args.config.now in
    text_of_known c.args.config.now _ _ q.0 _ _ c.finish.result (rw append-nil at (Consumes-trans _ _ _ _ _ q.1 none)) (c.in-Ok.ensures.bytes.1 c.if-n-eq0.true (omega (arith, c.loop-n.invariant.buffer_len)))
    (IfOk-weaker c.finish.result _ _ (λ summary h. h M _ q.0 q.3) c.finish.ensures.ok)

pub returns-in_err-session-clause-at_reads : goal.returns-in_err-session-clause-at_reads
returns-in_err-session-clause-at_reads g c =
    let e = err_from_is_err_and c.from_residual.result c.from_residual.ensures.1 in
    rw (e.1, e.2) (flushed_at_start c.args.config.now _ _ _ c.in_err-session.ensures.err)

pub returns-then-n-eq0-clause-at_reads : goal.returns-then-n-eq0-clause-at_reads
returns-then-n-eq0-clause-at_reads g c =
    let q = c.loop-n.invariant.progress in
    let M : State = first_state c.args.config.now in
    IfErr-weaker c.finish.result _ _ (λ f h. flushed_of_piece M _ _ _ q.0 [] _ _ _ _ f (h M _ q.0 q.3)) c.finish.ensures.err

pub returns-in_err-take_piece-clause-at_reads : goal.returns-in_err-take_piece-clause-at_reads
returns-in_err-take_piece-clause-at_reads g c =
    let e = err_from_is_err_and c.from_residual-in_err-take_piece.result c.from_residual-in_err-take_piece.ensures.1 in
    let q = c.loop-n.invariant.progress in
    rw (e.1, e.2) (flushed_of_piece _ _ _ _ _ _ _ _ _ _ _ (c.in_err-take_piece.ensures.err (first_state c.args.config.now) _ q.0 q.3))

pub returns-in_err-take_piece-2-clause-at_reads : goal.returns-in_err-take_piece-2-clause-at_reads
returns-in_err-take_piece-2-clause-at_reads g c =
    let e = err_from_is_err_and c.from_residual-in_err-take_piece-2.result c.from_residual-in_err-take_piece-2.ensures.1 in
    let q = c.loop-n.invariant.progress in
    rw (e.1, e.2) (flushed_of_piece _ _ _ _ _ _ _ _ _ _ _ (c.in_err-take_piece-2.ensures.err (first_state c.args.config.now) _ q.0 q.3))
