use Rattle.std.proofs.Common.{take}
use Rattle.std.specs.List.{flat_map}
use Rattle.fsck_import.specs.CallsFor.{reports}
use Rattle.fsck_import.specs.WrittenCalls.{Written}
use Rattle.fsck_import.proofs.line_writer.write_reports.Given as goal

-- the lines so far
abbrev pub invariant-loop-row : goal.invariant-loop-row
invariant-loop-row g l = Written (flat_map reports (take l.row-index l.cluster.rows)) (g.W.Write.contents l.fn.writer) (g.W.Write.contents l.writer)
