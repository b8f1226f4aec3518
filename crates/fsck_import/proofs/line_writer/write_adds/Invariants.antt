use Rattle.std.proofs.Common.{map, take}
use Rattle.fsck_import.specs.CallsFor.{add}
use Rattle.fsck_import.specs.WrittenCalls.{Written}
use Rattle.fsck_import.proofs.line_writer.write_adds.Given as goal

-- the lines so far
abbrev pub invariant-loop-index : goal.invariant-loop-index
invariant-loop-index g l = Written (map add (take l.index l.cluster.blocks)) (g.W.Write.contents l.fn.writer) (g.W.Write.contents l.writer)
