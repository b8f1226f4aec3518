use Rattle.std.proofs.Common.{length, sym, ap}
use Rattle.cluster_repair.proofs.SentLemmas.{copies_more}
use Rattle.cluster_repair.proofs.repair.count_copies.Goals as goal

pub loop-node-preserved : goal.loop-node-preserved
loop-node-preserved c =
    copies_more c.args.commands.now.nodes c.loop-node.node-index c.node-item.result c.loop-node.copies c.saturating_add-copies.result (length c.as_slice.result.now)
    (rw c.as_slice-node-items.ensures at c.loop-node-test.true) (sym (rw c.as_slice-node-items.ensures at c.node-item.is)) c.loop-node.invariant (ap length c.as_slice.ensures)
    c.saturating_add-copies.ensures
