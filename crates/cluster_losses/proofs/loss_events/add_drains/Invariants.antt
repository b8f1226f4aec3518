use Rattle.std.proofs.Common.{◌≡◌, ◌++◌, true, map, take}
use Rattle.cluster_lost.specs.Losses.{are_losses}
use Rattle.cluster_losses.specs.Events.{drain}
use Rattle.cluster_losses.proofs.loss_events.add_drains.Given as goal

abbrev pub invariant-loop-node : goal.invariant-loop-node
invariant-loop-node l = record {
  events : l.events.items ≡ l.fn.events.items ++ map drain (take l.node-index l.nodes);
  losses : are_losses l.events.items ≡ true;
}
