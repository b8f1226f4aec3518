use Rattle.std.proofs.Common.{◌≡◌, map}
use Rattle.std.specs.List.{range_with_len}
use Rattle.cluster_simulation.specs.Nodes.{storage_at}
use Rattle.cluster_simulation.proofs.nodes.registration.Given as goal

abbrev pub invariant-loop-place : goal.invariant-loop-place
invariant-loop-place l = l.storages.items ≡ map (storage_at l.shape l.node) (range_with_len 0 l.place)
