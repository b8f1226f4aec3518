use Rattle.std.proofs.Common.{◌∙◌, ℕ, sym, ap}
use Rattle.bm_base.specs.Maps.Map.{get}
use Rattle.cluster_losses.proofs.RowCounts.{tallied}
use Rattle.cluster_losses.proofs.single_losses.make_rows.Goals as goal

pub rows_of-requires-clause-tallied : goal.rows_of-requires-clause-tallied
rows_of-requires-clause-tallied c = record {
  count = c.in_ok-pass.ensures.whole.count;
  each = λ k d r at_domain at_row.
      tallied c.args.loaded.now.session.manager d.nodes (get c.in_ok-index.index.map) k c.show_invariant.ensures (c.in_ok-index.ensures k d at_domain)
      _ c.in_ok-pass.pass c.in_ok-pass.ensures.whole r at_row c.in_ok-pass.ensures.within;
}

pub returns-clause-rows : goal.returns-clause-rows
returns-clause-rows c = record {
  made = c.in_ok-rows.rows.items;
  each = c.in_ok-rows.ensures;
  moved = c.sort_worst_first.ensures.moved;
  worst_first = c.in_ok-sort_worst_first.ensures.in_order;
}
