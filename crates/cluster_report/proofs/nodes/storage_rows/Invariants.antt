use Rattle.std.proofs.Common.{◌≡◌, map, take}
use Rattle.cluster_report.specs.Nodes.{storage_row}
use Rattle.cluster_report.proofs.nodes.storage_rows.Given as goal

abbrev pub invariant-loop-storage : goal.invariant-loop-storage
invariant-loop-storage l = l.rows.items ≡ map (storage_row l.manager) (take l.storage-index l.storage-items)
