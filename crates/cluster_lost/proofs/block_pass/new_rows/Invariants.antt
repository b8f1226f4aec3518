use Rattle.cluster_lost.specs.Rows.{AreNew}
use Rattle.cluster_lost.proofs.block_pass.new_rows.Given as goal

abbrev pub invariant-loop-at : goal.invariant-loop-at
invariant-loop-at l = AreNew l._at l.rows.items
