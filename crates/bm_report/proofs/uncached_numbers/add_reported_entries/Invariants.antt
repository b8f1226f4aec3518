use Rattle.std.proofs.Common.{drop}
use Rattle.bm_base.specs.Machine.Entries.{expanded}
use Rattle.bm_report.specs.ReportedBlocks.{of_part, reported_to_part}
use Rattle.bm_report.proofs.ByNumber.{IsLeft}
use Rattle.bm_report.proofs.uncached_numbers.add_reported_entries.Given as goal

abbrev pub invariant-loop-entry : goal.invariant-loop-entry
invariant-loop-entry l = IsLeft l.topology.cluster l.storage (reported_to_part l.part l.entries) l.initial.arena l.initial.tally (of_part l.part (expanded (drop l.entry-index l.entries))) l.arena l.tally
