use Rattle.std.proofs.Common.{map, take}
use Rattle.fsck_import.specs.CallsFor.{received}
use Rattle.fsck_import.specs.WrittenCalls.{Written}
use Rattle.fsck_import.proofs.line_writer.write_received.Given as goal

-- the lines so far
abbrev pub invariant-loop-one : goal.invariant-loop-one
invariant-loop-one g l = Written (map (received l.storage) (take l.one-index l.held)) (g.W.Write.contents l.fn.writer) (g.W.Write.contents l.writer)
