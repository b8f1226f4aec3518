use Rattle.std.proofs.Common.{◌≡◌, subst, arith}
use Rattle.std.proofs.lemmas.List.{take_all}
use Rattle.cluster_repair.specs.Ticks.{on_way_after}
use Rattle.cluster_repair.proofs.TickLemmas.{none_more}
use Rattle.cluster_repair.proofs.ticks.last_arrival.Goals as goal

pub loop-one-preserved : goal.loop-one-preserved
loop-one-preserved c t h =
    none_more c.args.sent.now c.loop-one.one-index t c.loop-one.last c.one-item.result c.loop-one-test.true c.one-item.is
    (omega (arith, h, c.max-last.ensures)) (omega (arith, h, c.max-last.ensures)) (c.loop-one.invariant t)

pub returns : goal.returns
returns c t h = subst (λ xs. on_way_after xs t ≡ 0) (take_all c.loop-one.one-index c.args.sent.now c.loop-one-test.false) (c.loop-one.invariant t h)
