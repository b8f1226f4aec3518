use Rattle.std.proofs.Common.{drop}
use Rattle.bm_base.specs.Machine.Entries.{expanded}
use Rattle.bm_report.specs.ReportedBlocks.{of_part, reported_to_part}
use Rattle.bm_report.proofs.ByNumber.{HasExcessToDrop}
use Rattle.bm_report.proofs.uncached_numbers.drop_invalid_excess_of_entries.Given as goal

abbrev pub invariant-loop-entry : goal.invariant-loop-entry
invariant-loop-entry l = HasExcessToDrop l.storage (reported_to_part l.part l.entries) l.initial.arena (of_part l.part (expanded (drop l.entry-index l.entries))) l.arena
