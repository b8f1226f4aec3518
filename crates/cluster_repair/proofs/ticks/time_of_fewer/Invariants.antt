use Rattle.std.proofs.Common.{◌-◌, ◌≤◌, ◌<◌, ℕ}
use Rattle.cluster_repair.specs.Ticks.{on_way_after}
use Rattle.cluster_repair.proofs.ticks.time_of_fewer.Given as goal

abbrev pub invariant-loop-low : goal.invariant-loop-low
invariant-loop-low l = record {
  ordered : l.low ≤ l.high;
  fewer : (t : ℕ) → l.high ≤ t → on_way_after l.sent t < l.enough;
  before : (t : ℕ) → t < l.low → l.enough ≤ on_way_after l.sent t;
}

abbrev pub decreases-loop-low : goal.decreases-loop-low
decreases-loop-low l = l.high - l.low
