use Rattle.std.proofs.Common.{◌≡◌, take}
use Rattle.bm_base.specs.Maps.Map.{keys}
use Rattle.cluster_report.proofs.nodes.all_storages.Given as goal

abbrev pub invariant-loop-place : goal.invariant-loop-place
invariant-loop-place l = l.storages.items ≡ take l.place (keys l.topology.cluster.storages)
