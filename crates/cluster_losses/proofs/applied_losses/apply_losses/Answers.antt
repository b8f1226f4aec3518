use Rattle.std.proofs.Common.{◌∙◌, subst}
use Rattle.cluster_losses.specs.Outcomes.{AreClusterCounts}
use Rattle.cluster_losses.proofs.Steps.{missing_both}
use Rattle.cluster_losses.proofs.applied_losses.apply_losses.Goals as goal

pub returns-clause-outcome : goal.returns-clause-outcome
returns-clause-outcome g c = record {
  lost =
      c.in_ok-lost.ensures c.args.session.now.manager c.args.losses.now
      (missing_both _ _ _ _ _ c.show_invariant.ensures c.requires.losses c.requires.missing c.in_ok-apply_all.ensures.state (c.as_slice.ensures ∙ c.in_ok-after.ensures.missing));
  counts = subst (λ M. AreClusterCounts M c.in_ok-after.after) c.in_ok-apply_all.ensures.state c.in_ok-after.ensures;
}
