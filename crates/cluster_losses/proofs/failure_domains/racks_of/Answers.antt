use Rattle.std.proofs.Common.{◌∙◌, ap, map}
use Rattle.cluster_losses.specs.FailureDomains.{rack_domain}
use Rattle.cluster_losses.proofs.Apart.{racks_apart}
use Rattle.cluster_losses.proofs.failure_domains.racks_of.Goals as goal

pub returns-clause-apart : goal.returns-clause-apart
returns-clause-apart c =
    racks_apart c.args.book.now.topology.cluster c.in_ok-domains.domains.items
    (record { racks = c.in_ok-numbers.numbers.items; numbers = c.in_ok-numbers.ensures; is = c.in_ok-domains.ensures ∙ ap (map (rack_domain c.args.book.now.topology.cluster)) c.as_slice.ensures.value })
