use Rattle.std.proofs.Common.{◌≡◌, ◌++◌, map}
use Rattle.cluster_simulation.specs.Incidents.{numbers_where, any_kills_node, death}
use Rattle.cluster_simulation.proofs.losses.push_deaths.Given as goal

abbrev pub invariant-loop-node : goal.invariant-loop-node
invariant-loop-node l = l.calls.items ≡ l.fn.calls.items ++ map death (numbers_where (any_kills_node l.incidents l.shape) l.node)
