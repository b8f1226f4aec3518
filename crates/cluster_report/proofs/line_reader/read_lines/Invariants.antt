use Rattle.std.proofs.Common.{◌≡◌, ℕ, List, Some}
use Rattle.cluster_report.specs.Sessions.{IsInStep}
use Rattle.cluster_report.proofs.ReadLemmas.{LinesTaken}
use Rattle.cluster_report.proofs.line_reader.read_lines.Given as goal

abbrev pub invariant-loop-number : goal.invariant-loop-number
invariant-loop-number g l = record {
  in_step : IsInStep l.session;
  taken : (input : List ℕ) → g.R.Read.remaining l.fn.reader ≡ Some input
      → LinesTaken l.fn.session.manager (g.N.Write.contents l.fn.notes) input l.number l.session.manager l.all_accepted (g.N.Write.contents l.notes) (g.R.Read.remaining l.reader);
}
