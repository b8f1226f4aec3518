use Rattle.std.proofs.Common.{ap, sym, ◌∙◌}
use Rattle.bm_base.specs.Words.{insert, replica_at}
use Rattle.cluster_report.proofs.CopyLemmas.{insert_more}
use Rattle.cluster_report.proofs.transfers.Transfers.add_node.Goals as goal

pub loop-transfer-preserved : goal.loop-transfer-preserved
loop-transfer-preserved c =
    let t = c.transfer-item.result in
    record {
      copies =
          c.in_ok-insert.ensures.copies
          ∙ ap (λ m. insert m (replica_at t.block t.target) c.args.round) c.loop-transfer.invariant.copies
          ∙ sym (insert_more c.args.self.now.copies (λ u. (replica_at u.block u.target, c.args.round)) c.args.commands.now.transfers c.loop-transfer.transfer-index t
          (rw c.as_slice-transfer-items.ensures at c.loop-transfer-test.true) (sym (rw c.as_slice-transfer-items.ensures at c.transfer-item.is)));
      pend = c.in_ok-insert.ensures.pend ∙ c.loop-transfer.invariant.pend;
    }
