use Rattle.std.proofs.Common.{◌≤◌, ◌<◌, ℕ, ◌+◌, ◌-◌, ◌/◌, arith}
use Rattle.cluster_repair.proofs.TickLemmas.{fewer_later}
use Rattle.cluster_repair.proofs.ticks.time_of_fewer.Goals as goal

none_below : (t : ℕ) → t < 0 → ⊥
none_below t h = omega (arith, h)

pub loop-low-init : goal.loop-low-init
loop-low-init c = record {
  ordered = omega arith;
  fewer = λ t h. omega (arith, c.requires, c.last_arrival-high.ensures t h);
  before = λ t h. absurd (none_below t h);
}

halved : (low high : ℕ) → low < high → (low ≤ low + (high - low) / 2) × (low + (high - low) / 2 + 1 ≤ high)
halved low high h = (omega arith, omega (arith, h))

pub loop-low-preserved-then-on_way_after-enough : goal.loop-low-preserved-then-on_way_after-enough
loop-low-preserved-then-on_way_after-enough c =
    let middle = c.loop-low.low + (c.loop-low.high - c.loop-low.low) / 2 in
    record {
      ordered = omega arith;
      fewer = λ t h. omega (arith, c.if-on_way_after-enough.true, c.on_way_after.ensures, fewer_later c.args.sent.now middle t h);
      before = c.loop-low.invariant.before;
    }

before_next : (t m : ℕ) → t < m + 1 → t ≤ m
before_next t m h = omega (arith, h)

pub loop-low-preserved : goal.loop-low-preserved
loop-low-preserved c =
    let middle = c.loop-low.low + (c.loop-low.high - c.loop-low.low) / 2 in
    record {
      ordered = (halved c.loop-low.low c.loop-low.high c.loop-low-test.true).1;
      fewer = c.loop-low.invariant.fewer;
      before = λ t h. omega (arith, c.if-on_way_after-enough.false, c.on_way_after.ensures, fewer_later c.args.sent.now t middle (before_next t middle h));
    }
