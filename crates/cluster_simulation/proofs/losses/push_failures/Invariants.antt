use Rattle.std.proofs.Common.{◌≡◌, ◌++◌, map}
use Rattle.cluster_simulation.specs.Incidents.{numbers_where, fails_alone, failure}
use Rattle.cluster_simulation.proofs.losses.push_failures.Given as goal

abbrev pub invariant-loop-storage : goal.invariant-loop-storage
invariant-loop-storage l = l.calls.items ≡ l.fn.calls.items ++ map failure (numbers_where (fails_alone l.incidents l.shape) l.storage)
