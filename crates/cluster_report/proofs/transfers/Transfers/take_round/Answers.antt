use Rattle.std.proofs.Common.{ap, sym, ◌∙◌}
use Rattle.bm_base.specs.Maps.Map.{insert_all}
use Rattle.cluster_report.specs.Copies.{commanded_to}
use Rattle.cluster_report.proofs.CopyLemmas.{insert_more_all}
use Rattle.cluster_report.proofs.transfers.Transfers.take_round.Goals as goal

pub loop-node-preserved : goal.loop-node-preserved
loop-node-preserved c =
    let k = c.node-item.result in
    record {
      copies =
          c.in_ok-add_node.ensures.copies
          ∙ ap (λ m. insert_all m (commanded_to c.args.commands.now.round k)) c.loop-node.invariant.copies
          ∙ sym (insert_more_all _ (commanded_to c.args.commands.now.round) c.args.commands.now.nodes c.loop-node.node-index k
          (rw c.as_slice-node-items.ensures at c.loop-node-test.true) (sym (rw c.as_slice-node-items.ensures at c.node-item.is)));
      pend = c.in_ok-add_node.ensures.pend ∙ c.loop-node.invariant.pend;
    }
