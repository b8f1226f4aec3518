use Rattle.std.proofs.Common.{refl}
use Rattle.laws_of_repairs.proofs.WatchedBlocks.{covers_round}
use Rattle.cluster_simulation.proofs.RoundLemmas.{follows_round}
use Rattle.cluster_simulation.proofs.cluster.Cluster.take_round.Goals as goal

pub returns-clause-covers : goal.returns-clause-covers
returns-clause-covers g c bs covers = covers_round c.args.self.now.session.manager c.round.new.self bs c.show_invariant.ensures c.in_ok-commands.ensures.state covers

pub returns-clause-in_step : goal.returns-clause-in_step
returns-clause-in_step g c before =
    follows_round c.args.self.now.session.manager c.round.new.self c.args.self.now.session.book _ c.in_ok-commands.commands
    c.show_invariant.ensures c.in_ok-commands.ensures.accepted c.in_ok-commands.ensures.commands c.in_ok-commands.ensures.state
    refl c.in_ok-take_round.ensures.copies c.in_ok-take_round.ensures.pend refl before
