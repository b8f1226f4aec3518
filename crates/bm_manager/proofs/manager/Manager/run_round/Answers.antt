use Rattle.bm_manager.proofs.ManagerRounds.{spares, keeps}
use Rattle.bm_manager.proofs.manager.Manager.run_round.Goals as goal

pub returns-clause-last_good : goal.returns-clause-last_good
returns-clause-last_good g c = spares c.args.self.now c.next_round.result c.show_invariant.ensures c.next_round.ensures.commands

pub returns-clause-enough_live : goal.returns-clause-enough_live
returns-clause-enough_live g c =
    keeps c.args.self.now c.next_round.new.self c.next_round.result c.show_invariant.ensures c.next_round.ensures.commands c.next_round.ensures.state
