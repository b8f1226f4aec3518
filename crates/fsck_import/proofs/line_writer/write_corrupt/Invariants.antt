use Rattle.std.proofs.Common.{map, take}
use Rattle.fsck_import.specs.CallsFor.{corrupt}
use Rattle.fsck_import.specs.WrittenCalls.{Written}
use Rattle.fsck_import.proofs.line_writer.write_corrupt.Given as goal

-- the lines so far
abbrev pub invariant-loop-bad : goal.invariant-loop-bad
invariant-loop-bad g l = Written (map corrupt (take l.bad-index l.cluster.bad)) (g.W.Write.contents l.fn.writer) (g.W.Write.contents l.writer)
