use Rattle.std.proofs.Common.{◌≡◌, map, take}
use Rattle.cluster_losses.specs.FailureDomains.{node_domain}
use Rattle.cluster_losses.proofs.failure_domains.nodes_of.Given as goal

abbrev pub invariant-loop-node : goal.invariant-loop-node
invariant-loop-node l = l.domains.items ≡ map node_domain (take l.node-index l.node-items)
