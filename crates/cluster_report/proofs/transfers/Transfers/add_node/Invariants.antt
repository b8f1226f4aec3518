use Rattle.std.proofs.Common.{◌≡◌, map, take}
use Rattle.bm_base.specs.Words.{insert_all, replica_at}
use Rattle.cluster_report.proofs.transfers.Transfers.add_node.Given as goal

abbrev pub invariant-loop-transfer : goal.invariant-loop-transfer
invariant-loop-transfer l = record {
  copies : l.self.copies ≡ insert_all l.fn.self.copies (map (λ t. (replica_at t.block t.target, l.round)) (take l.transfer-index l.commands.transfers));
  pend : l.self.pend ≡ l.fn.self.pend;
}
