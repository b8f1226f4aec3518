use Rattle.std.proofs.Common.{true, false, length, drop, sym, ◌∙◌, arith, length-append, length-drop}
use Rattle.bm_topo.proofs.Repeats.{has_repeats-split}
use Rattle.bm_topo.proofs.checks.has_repeats_among_many.Goals as goal

pub returns-then-repeats_any : goal.returns-then-repeats_any
returns-then-repeats_any c =
    sym (has_repeats-split c.loop-rest.rest.now c.split_at.result.0.now c.split_at.result.1.now c.repeats_any.result true c.split_at.ensures.by_index.0 c.repeats_any.ensures c.if-repeats_any.true) ∙ c.loop-rest.invariant.0

pub loop-rest-preserved : goal.loop-rest-preserved
loop-rest-preserved c =
    let behind = drop (length c.split_at.result.0.now) c.loop-rest.ordered in (
      sym (has_repeats-split c.loop-rest.rest.now c.split_at.result.0.now c.split_at.result.1.now c.repeats_any.result false c.split_at.ensures.by_index.0 c.repeats_any.ensures c.if-repeats_any.false) ∙ c.loop-rest.invariant.0,
      grind (arith, length-append c.repeats_any.new.ordered behind, length-drop (length c.split_at.result.0.now) c.loop-rest.ordered),
    )
