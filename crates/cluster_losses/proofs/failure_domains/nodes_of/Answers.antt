use Rattle.std.proofs.Common.{◌∙◌, ap, map, take_all}
use Rattle.cluster_losses.specs.FailureDomains.{node_domain}
use Rattle.cluster_losses.proofs.Apart.{nodes_apart}
use Rattle.cluster_losses.proofs.failure_domains.nodes_of.Goals as goal

pub returns-clause-apart : goal.returns-clause-apart
returns-clause-apart c =
    nodes_apart c.args.book.now.topology.cluster c.loop-node.domains.items
    (c.loop-node.invariant ∙ ap (map node_domain) (take_all c.loop-node.node-index c.deref-node-items.result.now c.loop-node-test.false ∙ c.deref-node-items.ensures.value ∙ c.in_ok-all.ensures))
