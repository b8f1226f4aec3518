use Rattle.std.proofs.Common.{take}
use Rattle.cluster_lost.specs.Rows.{AreAdded}
use Rattle.cluster_lost.proofs.block_pass.add_to_rows.Given as goal

abbrev pub invariant-loop-index : goal.invariant-loop-index
invariant-loop-index l = AreAdded l.info l.block l.sources (take l.index l.sources) l.fn.rows.items l.rows.items
