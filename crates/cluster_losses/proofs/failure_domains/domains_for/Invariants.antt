use Rattle.std.proofs.Common.{◌≡◌, map, take}
use Rattle.cluster_losses.specs.FailureDomains.{rack_domain}
use Rattle.cluster_losses.proofs.failure_domains.domains_for.Given as goal

abbrev pub invariant-loop-rack : goal.invariant-loop-rack
invariant-loop-rack l = l.domains.items ≡ map (rack_domain l.book.topology.cluster) (take l.rack-index l.racks)
