use Rattle.std.proofs.Common.{map, take}
use Rattle.fsck_import.specs.CallsFor.{register}
use Rattle.fsck_import.specs.WrittenCalls.{Written}
use Rattle.fsck_import.proofs.line_writer.write_registers.Given as goal

-- the lines so far
abbrev pub invariant-loop-node : goal.invariant-loop-node
invariant-loop-node g l = Written (map (register l.cluster.rows) (take l.node-index l.cluster.node_rows)) (g.W.Write.contents l.fn.writer) (g.W.Write.contents l.writer)
