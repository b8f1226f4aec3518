-- A model of the times of rounds. The first comes at time 0, and each other at the first tick at
-- which DataNodes have too little to do. Times are in microseconds.
use Rattle.std.specs.Prelude.{◌≡◌, ℕ, ◌<◌, ◌≤◌, ◌+◌, ◌*◌, max, min, nat_lt, List, count_by}
use Rattle.bm_base.specs.Maps.Map.{len}
use Rattle.bm_base.specs.Words.{Cluster}
use Rattle.cluster_repair.specs.declared.awaited_copies.Sent.{Sent}
use Rattle.cluster_repair.specs.declared.repair.Pace.{Pace}
use Rattle.cluster_repair.specs.declared.ticks.Ticks.{Ticks}
use Rattle.cluster_repair.specs.LinkModel.{most}

-- Ticks come at the pace's interval. A round is skipped while the number of copies on their way is
-- at least the number that the round may command.
abbrev pub ticks_of : Pace → Cluster → Ticks
ticks_of pace C = record { interval = pace.interval * 1000000; enough = pace.work * len C.nodes }

-- how many of these copies arrive after a time
abbrev pub on_way_after : List Sent → ℕ → ℕ
on_way_after ss t = count_by (λ s. nat_lt t s.arrival) ss

-- The next round after one at the time `last`, which left these copies on their way, comes a number
-- of ticks later. Fewer copies than are enough are on their way then, and not at an earlier tick.
pub record IsNextTick (ticks : Ticks) (ss : List Sent) (last next : ℕ) : Type 0 where
  pub number : ℕ
  pub later : 0 < number
  pub is : next ≡ min (last + number * max ticks.interval 1) most
  pub fewer : on_way_after ss next < max ticks.enough 1
  pub first : (k : ℕ) → 0 < k → k < number → max ticks.enough 1 ≤ on_way_after ss (last + k * max ticks.interval 1)
