use Rattle.cluster_repair.proofs.Reach.{rows_and}
use Rattle.cluster_repair.proofs.RowLemmas.{in_order_and}
use Rattle.cluster_repair.proofs.rows.Rows.push.Goals as goal

pub returns-clause-rows : goal.returns-clause-rows
returns-clause-rows c M d taken before one =
    rows_and M d taken c.thin_if_full.new.self.rows.items c.push.new.self.items c.args.row c.in_ok-push.ensures.items (c.in_ok-thin_if_full.ensures.rows M d taken before) one

pub returns-clause-last : goal.returns-clause-last
returns-clause-last c = record { front = c.thin_if_full.new.self.rows.items; is = c.in_ok-push.ensures.items }

pub returns-clause-in_order : goal.returns-clause-in_order
returns-clause-in_order c before =
    in_order_and c.thin_if_full.new.self.stride c.thin_if_full.new.self.rows.items c.push.new.self.items c.args.row c.in_ok-push.ensures.items (c.in_ok-thin_if_full.ensures.in_order c.args.row.round before)
