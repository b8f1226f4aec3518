use Rattle.std.proofs.Common.{◌≡◌, ◌++◌, map}
use Rattle.cluster_simulation.specs.Incidents.{numbers_where, drains_alive, drain}
use Rattle.cluster_simulation.proofs.losses.push_drains.Given as goal

abbrev pub invariant-loop-node : goal.invariant-loop-node
invariant-loop-node l = l.calls.items ≡ l.fn.calls.items ++ map drain (numbers_where (drains_alive l.incidents l.shape) l.node)
