use Rattle.std.proofs.Common.{◌≡◌, ◌<◌, ◌&&◌, length, arith}
use Rattle.cluster_report.proofs.ReadLemmas.{Reads, reads_line, taken_line, taken_all, both_where, neither_where}
use Rattle.cluster_report.proofs.line_reader.read_lines.Goals as goal
use Rattle.cluster_report.proofs.line_reader.read_lines.Goals.{then-all_accepted, else-all_accepted}
use Rattle.bm_base.proofs.Options.{each_some}

pub returns-in-Ok-eq0-clause-state : goal.returns-in-Ok-eq0-clause-state
returns-in-Ok-eq0-clause-state g c =
    each_some _ (λ input e. (taken_all _ _ _ _ _ input _ _ (c.loop-number.invariant.taken input e) (c.in-Ok-eq0.ensures.end c.in-Ok-eq0.field-0-test)).state)

pub returns-in-Ok-eq0-clause-accepted : goal.returns-in-Ok-eq0-clause-accepted
returns-in-Ok-eq0-clause-accepted g c =
    each_some _ (λ input e. (taken_all _ _ _ _ _ input _ _ (c.loop-number.invariant.taken input e) (c.in-Ok-eq0.ensures.end c.in-Ok-eq0.field-0-test)).all)

pub returns-in-Ok-eq0-clause-notes : goal.returns-in-Ok-eq0-clause-notes
returns-in-Ok-eq0-clause-notes g c =
    each_some _ (λ input e. (taken_all _ _ _ _ _ input _ _ (c.loop-number.invariant.taken input e) (c.in-Ok-eq0.ensures.end c.in-Ok-eq0.field-0-test)).noted)

pub loop-number-preserved : goal.loop-number-preserved
loop-number-preserved g c =
    let some : 0 < length c.read_until.new.buf.items = omega (arith, c.read_until.new.buf.ok.0, c.in-Ok.ensures.ok, c.clear.ensures.len, c.in-Ok.field-0-test) in
    let both : c.if-all_accepted.all_accepted ≡ (c.loop-number.all_accepted && c.in_ok-is_accepted.is_accepted) = elim c.if-all_accepted.branch [
      | then-all_accepted w ↦ both_where _ _ _ w.if-all_accepted.true w.all_accepted-is
      | else-all_accepted w ↦ neither_where _ _ _ w.if-all_accepted.false w.all_accepted-is
    ] in
    record {
      in_step = c.in_ok-is_accepted.ensures.in_step;
      taken = λ input e.
          let t = c.loop-number.invariant.taken input e in
          let reads : Reads t.rest c.read_until.new.buf.items (g.R.Read.remaining c.read_until.new.self) = reads_line _ _ t.rest c.clear.new.self.items c.read_until.new.buf.items t.left_is c.in-Ok.ensures.bytes c.in-Ok.ensures.rest c.clear.ensures.items some in
          taken_line _ _ _ _ _ _ _ _ input _ _ _ _ c.read_until.new.buf.items c.without_end-text.result.now t reads (rw c.as_slice.ensures.value at c.without_end-text.ensures)
          c.in_ok-is_accepted.ensures.state c.in_ok-is_accepted.ensures.accepted both c.in_ok-is_accepted.ensures.notes;
    }
