use Rattle.std.proofs.Common.{◌∙◌, sym, ap, subst}
use Rattle.bm_base.specs.Words.{empty_holdings}
use Rattle.cluster_report.specs.Catalogues.{Lists}
use Rattle.cluster_report.proofs.session.Session.new.Goals as goal

pub returns-in-Ok-clause-in_step : goal.returns-in-Ok-clause-in_step
unfolding empty_holdings
returns-in-Ok-clause-in_step c =
    let state = c.in_ok-manager.ensures.state in
    record {
      cluster = c.in-Ok.ensures.cluster ∙ sym (ap (λ M. M.cluster) state);
      copies = c.in-Ok.ensures.copies ∙ sym (ap (λ M. M.holdings.pending) state);
      pend = c.in-Ok.ensures.pend ∙ sym (ap (λ M. M.limits.pend) state);
      blocks = subst (Lists c.in-Ok.book.blocks) (sym (ap (λ M. M.holdings.blocks) state)) c.in-Ok.ensures.blocks;
    }
