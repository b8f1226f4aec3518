use Rattle.std.specs.Prelude.{◌≡◌, ◌++◌, take}
use Rattle.std.specs.List.{flat_map}
use Rattle.cluster_repair.specs.SentCopies.{AreBegun}
use Rattle.cluster_repair.proofs.datanodes.DataNodes.obey.Given as goal

abbrev pub invariant-loop-node : goal.invariant-loop-node
invariant-loop-node l = record {
  begun : AreBegun l.topology.cluster l.now (flat_map (λ n. n.transfers) (take l.node-index l.commands.nodes)) l.fn.self l.self;
  deletes : l.self.deletes.items ≡ l.fn.self.deletes.items ++ flat_map (λ n. n.deletes) (take l.node-index l.commands.nodes);
}
