use Rattle.std.proofs.Common.{◌≡◌, map}
use Rattle.std.specs.List.{range_with_len}
use Rattle.cluster_simulation.specs.Nodes.{free_at}
use Rattle.cluster_simulation.proofs.nodes.heartbeat.Given as goal

abbrev pub invariant-loop-place : goal.invariant-loop-place
invariant-loop-place l = l.free.items ≡ map (free_at l.manager l.shape l.capacity l.node) (range_with_len 0 l.place)
