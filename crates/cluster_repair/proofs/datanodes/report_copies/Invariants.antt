use Rattle.std.specs.Prelude.{map, take}
use Rattle.cluster_repair.specs.Reports.{received}
use Rattle.cluster_repair.specs.Rows.{AreReported}
use Rattle.cluster_repair.proofs.datanodes.report_copies.Given as goal

abbrev pub invariant-loop-sent : goal.invariant-loop-sent
invariant-loop-sent g l = AreReported (map received (take l.sent-index l.due)) l.fn.manager l.manager l.fn.watch.blocks.items l.watch.blocks.items
