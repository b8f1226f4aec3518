use Rattle.std.proofs.Common.{◌≡◌, ◌++◌, true, map, take}
use Rattle.cluster_lost.specs.Losses.{are_losses}
use Rattle.cluster_losses.specs.Events.{failure}
use Rattle.cluster_losses.proofs.loss_events.add_failures.Given as goal

abbrev pub invariant-loop-storage : goal.invariant-loop-storage
invariant-loop-storage l = record {
  events : l.events.items ≡ l.fn.events.items ++ map failure (take l.storage-index l.storages);
  losses : are_losses l.events.items ≡ true;
}
