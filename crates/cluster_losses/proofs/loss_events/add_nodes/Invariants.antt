use Rattle.std.proofs.Common.{◌≡◌, drop}
use Rattle.cluster_losses.specs.NamedStorages.{with_all}
use Rattle.cluster_losses.proofs.loss_events.add_nodes.Given as goal

abbrev pub invariant-loop-node : goal.invariant-loop-node
invariant-loop-node l = with_all l.nodes.items (drop l.node-index l.named) ≡ with_all l.fn.nodes.items l.named
