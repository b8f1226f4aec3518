use Rattle.std.specs.Prelude.{map, take}
use Rattle.cluster_repair.specs.Reports.{deleted}
use Rattle.cluster_repair.specs.Rows.{AreReported}
use Rattle.cluster_repair.proofs.datanodes.report_deletes.Given as goal

abbrev pub invariant-loop-delete : goal.invariant-loop-delete
invariant-loop-delete g l = AreReported (map deleted (take l.delete-index l.deletes)) l.fn.manager l.manager l.fn.watch.blocks.items l.watch.blocks.items
