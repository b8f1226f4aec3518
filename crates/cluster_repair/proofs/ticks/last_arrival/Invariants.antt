use Rattle.std.proofs.Common.{◌≡◌, ◌≤◌, ℕ, take}
use Rattle.cluster_repair.specs.Ticks.{on_way_after}
use Rattle.cluster_repair.proofs.ticks.last_arrival.Given as goal

abbrev pub invariant-loop-one : goal.invariant-loop-one
invariant-loop-one l = (t : ℕ) → l.last ≤ t → on_way_after (take l.one-index l.sent) t ≡ 0
