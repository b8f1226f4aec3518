use Rattle.std.proofs.Common.{◌≡◌, ◌-◌, ◌≤◌, ℕ, true, List, length}
use Rattle.std.specs.Io.KnownBytes.{Consumes}
use Rattle.bm_base.specs.Machine.State.{first_state}
use Rattle.bm_session.specs.declared.limits.TheConstants.{MAX_BYTES, PIECE}
use Rattle.bm_session.specs.Progress.{Progress}
use Rattle.bm_session.proofs.whole_run.run.Given as goal

abbrev pub invariant-loop-n : goal.invariant-loop-n
invariant-loop-n g l = record {
  few : l.count ≤ MAX_BYTES;
  buffer_len : length l.buffer ≡ PIECE;
  reads : g.R.Source.faults l.reader ≡ g.R.Source.faults l.fn.reader;
  writes : g.W.Sink.faults l.writer ≡ g.W.Sink.faults l.fn.writer;
  flushed : g.W.Sink.is_flushed l.fn.writer ≡ true → g.W.Sink.is_flushed l.writer ≡ true;
  progress : (input : List ℕ) × Consumes (g.R.Source.remaining l.fn.reader) (g.R.Source.remaining l.reader) input × (length input ≡ l.count)
      × Progress (first_state l.fn.config) (g.W.Sink.contents l.fn.writer) (g.W.Sink.contents l.writer) l.session input;
}

abbrev pub decreases-loop-n : goal.decreases-loop-n
decreases-loop-n g l = MAX_BYTES - l.count
