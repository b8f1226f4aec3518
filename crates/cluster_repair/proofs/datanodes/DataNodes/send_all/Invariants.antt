use Rattle.std.specs.Prelude.{◌≡◌, take}
use Rattle.cluster_repair.specs.SentCopies.{AreBegun}
use Rattle.cluster_repair.proofs.datanodes.DataNodes.send_all.Given as goal

abbrev pub invariant-loop-transfer : goal.invariant-loop-transfer
invariant-loop-transfer l = record {
  begun : AreBegun l.topology.cluster l.now (take l.transfer-index l.transfers) l.fn.self l.self;
  deletes : l.self.deletes ≡ l.fn.self.deletes;
}
