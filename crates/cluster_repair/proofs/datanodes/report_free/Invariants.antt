use Rattle.std.specs.Prelude.{ℕ, List, map, take}
use Rattle.cluster_repair.specs.Reports.{heartbeat_of}
use Rattle.cluster_repair.specs.Rows.{AreReported}
use Rattle.cluster_repair.proofs.datanodes.report_free.Given as goal

abbrev pub invariant-loop-node : goal.invariant-loop-node
invariant-loop-node g l = (bs : List ℕ) → AreReported (map (heartbeat_of l.free) (take l.node-index l.free.nodes.items)) l.fn.manager l.manager bs bs
