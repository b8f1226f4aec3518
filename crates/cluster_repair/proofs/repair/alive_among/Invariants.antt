use Rattle.std.specs.Prelude.{◌≡◌, filter, take}
use Rattle.bm_base.specs.Words.{knows_node}
use Rattle.cluster_repair.proofs.repair.alive_among.Given as goal

abbrev pub invariant-loop-node : goal.invariant-loop-node
invariant-loop-node l = l.alive.items ≡ filter (knows_node l.topology.cluster) (take l.node-index l.drained)
