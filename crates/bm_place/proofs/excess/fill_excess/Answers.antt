use Rattle.std.proofs.Common.{◌++◌, ap, sym, ◌∙◌}
use Rattle.bm_base.specs.Machine.RoundStart.{excess_among, excess_of}
use Rattle.bm_place.proofs.excess.fill_excess.Goals as goal

pub returns-then-surplus-eq0-clause-chosen : goal.returns-then-surplus-eq0-clause-chosen
unfolding excess_of
returns-then-surplus-eq0-clause-chosen c once =
    c.clear.ensures.items ∙ ap (λ k. excess_among c.args.topology.now.cluster k c.args.live.now) (sym c.if-surplus-eq0.true ∙ c.saturating_sub-surplus.ensures)

pub returns-clause-chosen : goal.returns-clause-chosen
unfolding excess_of
returns-clause-chosen c once =
    let C = c.args.topology.now.cluster in
    c.in_ok-push_by_sorting.ensures once ∙ (λ i. c.clear.ensures.items i ++ excess_among C (c.saturating_sub-surplus.ensures i) c.args.live.now)
