use Rattle.std.proofs.Common.{◌≡◌, ℕ, List, ◌++◌, length}
use Rattle.std.specs.Prelude.{Option}
use Rattle.bm_base.specs.Machine.State.{State}
use Rattle.bm_session.specs.Progress.{Progress}
use Rattle.bm_session.proofs.session.Session.take_piece.Given as goal

abbrev pub invariant-loop-left : goal.invariant-loop-left
invariant-loop-left g l = record {
  faults : g.W.Sink.faults l.writer ≡ g.W.Sink.faults l.fn.writer;
  progress : (M : State) (start : Option (List ℕ)) (bytes : List ℕ) → Progress M start (g.W.Sink.contents l.fn.writer) l.fn.self bytes
      → (taken : List ℕ) × (l.fn.piece ≡ taken ++ l.left) × Progress M start (g.W.Sink.contents l.writer) l.self (bytes ++ taken);
}

abbrev pub decreases-loop-left : goal.decreases-loop-left
decreases-loop-left g l = length l.left
