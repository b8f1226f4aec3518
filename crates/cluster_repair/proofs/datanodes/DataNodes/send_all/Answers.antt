use Rattle.std.proofs.Common.{◌∙◌, ◌++◌, ◌∷◌, [], ◌+◌, take, sym, ap}
use Rattle.std.proofs.lemmas.List.{take_more}
use Rattle.cluster_repair.proofs.SentLemmas.{begun_on}
use Rattle.cluster_repair.proofs.datanodes.DataNodes.send_all.Goals as goal

pub loop-transfer-preserved : goal.loop-transfer-preserved
loop-transfer-preserved c =
    let ts = c.args.transfers.now in
    let i = c.loop-transfer.transfer-index in
    let t = c.transfer-item.result in
    record {
      begun = begun_on c.args.topology.now.cluster c.args.now (take i ts) (t ∷ []) (take (i + 1) ts) c.args.self.now c.loop-transfer.self c.send.new.self
          (take_more ts i t c.loop-transfer-test.true ∙ ap (λ u. take i ts ++ u ∷ []) (sym c.transfer-item.is)) c.loop-transfer.invariant.begun c.in_ok-send.ensures.begun;
      deletes = c.send.ensures.deletes ∙ c.loop-transfer.invariant.deletes;
    }
