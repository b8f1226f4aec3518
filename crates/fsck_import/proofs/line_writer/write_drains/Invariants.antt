use Rattle.std.proofs.Common.{map, filter, take}
use Rattle.fsck_import.specs.CallsFor.{drain, drains}
use Rattle.fsck_import.specs.WrittenCalls.{Written}
use Rattle.fsck_import.proofs.line_writer.write_drains.Given as goal

-- the lines so far
abbrev pub invariant-loop-node : goal.invariant-loop-node
invariant-loop-node g l = Written (map drain (filter (drains l.cluster) (take l.node-index l.cluster.node_rows))) (g.W.Write.contents l.fn.writer) (g.W.Write.contents l.writer)
