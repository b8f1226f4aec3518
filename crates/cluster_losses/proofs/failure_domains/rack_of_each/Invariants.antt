use Rattle.std.proofs.Common.{◌≡◌, map, take}
use Rattle.cluster_losses.specs.FailureDomains.{rack_number}
use Rattle.cluster_losses.proofs.failure_domains.rack_of_each.Given as goal

abbrev pub invariant-loop-node : goal.invariant-loop-node
invariant-loop-node l = l.numbers.items ≡ map (rack_number l.book.topology.cluster) (take l.node-index l.node-items)
