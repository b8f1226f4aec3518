use Rattle.bm_base.specs.Maps.Map.{get}
use Rattle.cluster_losses.proofs.RowIndexLemmas.{AreRowsUpTo}
use Rattle.cluster_losses.proofs.row_index.rows_of_nodes.Given as goal

abbrev pub invariant-loop-index : goal.invariant-loop-index
invariant-loop-index l = AreRowsUpTo l.index l.domains (get l.rows.map)
