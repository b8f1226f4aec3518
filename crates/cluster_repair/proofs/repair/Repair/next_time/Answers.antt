use Rattle.std.proofs.Common.{arith, subst}
use Rattle.cluster_repair.specs.Ticks.{IsNextTick}
use Rattle.cluster_repair.proofs.HistoryLemmas.{comes_first, comes_next}
use Rattle.cluster_repair.proofs.repair.Repair.next_time.Goals as goal

pub returns-then-self-eq0 : goal.returns-then-self-eq0
returns-then-self-eq0 c M d N history = comes_first c.args.ticks history.taken c.args.self.now.rounds history.rounds c.if-self-eq0.true

pub returns-else-self-eq0 : goal.returns-else-self-eq0
returns-else-self-eq0 c M d N history =
    comes_next c.args.ticks d history.taken c.args.self.now.rounds c.args.self.now.time c.next.result c.args.self.now.datanodes
    (omega (arith, c.if-self-eq0.false)) history.rounds history.time history.datanodes (subst (λ ss. IsNextTick c.args.ticks ss c.args.self.now.time c.next.result) c.as_slice.ensures.value c.next.ensures)
