use Rattle.std.proofs.Common.{◌<◌, length, subst, sym, ◌∙◌, arith}
use Rattle.std.specs.Io.BufRead.{drop_through}
use Rattle.fsck_import.specs.Lines.{IsReadFault}
use Rattle.fsck_import.proofs.ReadLemmas.{Reads, end_read, reads_line, read_more, refused_more}
use Rattle.bm_base.proofs.Options.{each_some}
use Rattle.fsck_import.proofs.lines.take_lines.Goals as goal

pub returns-in-Ok-eq0-clause-text : goal.returns-in-Ok-eq0-clause-text
returns-in-Ok-eq0-clause-text g c =
    each_some _ (λ text e.
    let left = c.loop-number.invariant text e in
    left.2 ∙ end_read g.T.TakesLines.after _ left.0 c.loop-number.number c.loop-number.taker left.1 (c.in-Ok-eq0.ensures.end c.in-Ok-eq0.field-0-test))

pub returns-in-Err-take_numbered-clause-refused : goal.returns-in-Err-take_numbered-clause-refused
returns-in-Err-take_numbered-clause-refused g c =
    each_some _ (λ text e.
    let left = c.loop-number.invariant text e in
    let some : 0 < length c.read_until.new.buf.items = omega (arith, c.read_until.new.buf.ok.0, c.in-Ok.ensures.ok, c.clear.ensures.len, c.in-Ok.field-0-test) in
    let reads : Reads left.0 c.read_until.new.buf.items (g.R.Read.remaining c.read_until.new.self) = reads_line _ _ left.0 c.clear.new.self.items c.read_until.new.buf.items left.1 c.in-Ok.ensures.bytes c.in-Ok.ensures.rest c.clear.ensures.items some in
    subst (IsReadFault c.in-Err-take_numbered.fault) (sym left.2)
    (refused_more g.T.TakesLines.after c.in-Err-take_numbered.fault c.loop-number.number c.loop-number.taker left.0 c.without_end-text.result.now c.read_until.new.buf.items _ reads
    (rw c.as_slice.ensures.value at c.without_end-text.ensures) c.in-Err-take_numbered.ensures.refused))

pub loop-number-preserved : goal.loop-number-preserved
loop-number-preserved g c = λ text e.
    let left = c.loop-number.invariant text e in
    let some : 0 < length c.read_until.new.buf.items = omega (arith, c.read_until.new.buf.ok.0, c.in-Ok.ensures.ok, c.clear.ensures.len, c.in-Ok.field-0-test) in
    let reads : Reads left.0 c.read_until.new.buf.items (g.R.Read.remaining c.read_until.new.self) = reads_line _ _ left.0 c.clear.new.self.items c.read_until.new.buf.items left.1 c.in-Ok.ensures.bytes c.in-Ok.ensures.rest c.clear.ensures.items some in (
      drop_through 10 left.0,
      reads.left_is,
      left.2 ∙ read_more g.T.TakesLines.after c.loop-number.number c.loop-number.taker c.take_numbered.new.taker left.0 c.without_end-text.result.now c.read_until.new.buf.items _ reads
          (rw c.as_slice.ensures.value at c.without_end-text.ensures) c.in_default.ensures.ok,
    )
