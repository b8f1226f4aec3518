use Rattle.cluster_losses.proofs.Steps.{follows_after}
use Rattle.cluster_losses.proofs.events.apply.Goals as goal

pub returns-clause-in_step : goal.returns-clause-in_step
returns-clause-in_step g c =
    follows_after c.args.session.now.manager _ c.args.session.now.book _ c.args.event.now
    c.in_ok-apply.ensures.state c.requires c.in_ok-take_event.ensures.cluster c.in_ok-take_event.ensures.copies c.in_ok-take_event.ensures.pend c.in_ok-take_event.ensures.blocks
